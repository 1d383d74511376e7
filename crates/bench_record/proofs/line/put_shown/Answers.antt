-- `bench_record::line::put_shown` meets its contract: the time and the status, a blank before each. Assumes nothing.
use Rattle.text.proofs.Wrote.{then}
use Rattle.bench_record.proofs.line.put_shown.Goals as goal

pub returns : goal.returns
returns c =
    then
    (then (then c.put_byte.ensures c.put_time.ensures) c.put_byte-2.ensures)
    c.put_hex_byte.ensures
