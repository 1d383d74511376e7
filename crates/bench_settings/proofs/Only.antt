-- No two results satisfy the promise of `bench_settings`. No contract cites this file. Assumes nothing.
use mathlib.Core.Path.{◌≡◌}
use Rattle.promise.specs.Only.{OnlyOne}
use Rattle.promise.proofs.Laws.{equation_only}
use Rattle.settings.specs.declared.node_settings.NodeSettings.{NodeSettings}
use Rattle.bench_settings.specs.Bench.{bench_with}

pub bench_settings_only : OnlyOne (λ (r : NodeSettings). r ≡ bench_with 2)
bench_settings_only = equation_only (bench_with 2)
