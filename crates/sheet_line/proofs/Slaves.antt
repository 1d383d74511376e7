-- The lines of the slaves from one domain on.
--   one_more   first that domain's, and then those of the domains after it
--   no_more    after the last domain, none
-- Assumes nothing.
use Prim.Native.Nat.{ℕ, suc, ◌+◌, ◌-◌, ◌≤◌, ◌<◌}
use mathlib.Core.Path.{◌≡◌, ap}
use mathlib.Core.List.{[], ◌++◌}
use native.Mathlib.Numerals.{add-one}
use native.Mathlib.Omega.{arith}
use Rattle.settings.specs.Node.{places}
use Rattle.domain.specs.declared.Domain.{Domain}
use Rattle.domain.specs.Records.{record_at}
use Rattle.node.specs.declared.Node.{Node}
use Rattle.sheet_tally.specs.declared.Tally.{Tally}
use Rattle.sheet_tally.specs.declared.sheet.Sheet.{Sheet}
use Rattle.sheet_tally.specs.Sheet.{tally_at}
use Rattle.sheet_line.specs.Line.{domain_text, slaves_text}

module _ (n : Node) (s : Sheet) (d : ℕ) where
  pub one_more :
      {one : Domain} {tally : Tally} → d < places → one ≡ record_at n.domains d → tally ≡ tally_at s.tallies d →
      slaves_text (places - d) d n s ≡
      domain_text d one.settings.role tally ++ slaves_text (places - (d + 1)) (d + 1) n s
  one_more h p q =
      let e : places - d ≡ suc (places - suc d) = omega arith in
      rw (add-one d, p, q) (ap (λ (k : ℕ). slaves_text k d n s) e)

  pub no_more : places ≤ d → slaves_text (places - d) d n s ≡ []
  no_more h =
      let e : places - d ≡ 0 = omega arith in
      ap (λ (k : ℕ). slaves_text k d n s) e
