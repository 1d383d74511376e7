-- "A refused call returns the number and zeros; state and lent bytes stay." No contract cites this file.
--   refused_zeros   the answer to a refused call is its number and zeros, and its lent bytes are as they were
-- Assumes nothing.
use Rattle.std.specs.Prelude.{Err, Ok}
use mathlib.Core.Path.{◌≡◌, refl, ap}
use Rattle.call_read.specs.Answer.{read_values}
use Rattle.node.specs.declared.Node.{Node}
use Rattle.node.specs.Read.{node_read_of}
use Rattle.node_call.specs.Calls.{
  Call,
  frame,
  read,
  set,
  cycle,
  confirm,
  shows,
  sends,
  follows,
  answer_to,
  number_in,
}
use Rattle.node_laws.specs.Refused.{IsRefused, zeros, refused_by}
use Rattle.node_laws.proofs.Laws.{refusal_keeps_bytes}
use Rattle.call_read.specs.declared.Shown.{Shown}
use Rattle.refusal.specs.Numbers.{Outcome, outcome_number}

read_zeros : (a : Outcome Shown) → (outcome_number a ≡ 0 → ⊥) → read_values a ≡ zeros
read_zeros (Ok shown) e = absurd (e refl)
read_zeros (Err refusal) e = refl

pub refused_zeros :
    (n : Node) (c : Call) → IsRefused n c → answer_to n c ≡ refused_by (number_in (answer_to n c)) c
refused_zeros n (frame t bytes) e = refl
refused_zeros n (read domain t) e =
    let answer = node_read_of n domain t in ap (shows (outcome_number answer)) (read_zeros answer e)
refused_zeros n (set domain t seconds nanoseconds) e = refl
refused_zeros n (cycle t out) e =
    let k = refusal_keeps_bytes n (cycle t out) e in
    λ i. sends (number_in (answer_to n (cycle t out))) (k.1 i) (k.0 i)
refused_zeros n (confirm domain t counter out) e =
    let k = refusal_keeps_bytes n (confirm domain t counter out) e in
    ap (follows (number_in (answer_to n (confirm domain t counter out)))) k.0
