-- What is known of a queue that is taken. Assumes nothing.
use Rattle.std.specs.Prelude.{Ok, ⊤}
use Prim.Native.Nat.{ℕ, ◌*◌, ◌≤◌}
use mathlib.Core.Path.{◌≡◌, ap}
use mathlib.Core.Bool.{true}
use native.Mathlib.Omega.{arith}
use lib.Dec.{leb, eqb}
use borrow.Author.Tests.{leb-true, eqb-true}
use Rattle.promise.proofs.Tests.{both, either_told}
use Rattle.node_queue.specs.Queue.{is_queue, queue_answer}
use Rattle.refusal.specs.Numbers.{Outcome, outcome_number}

-- ---- what is taken has room for its numbers, at most 32 readings, and eight bytes for each
is_queue_lem : (readings bytes : ℕ) → is_queue readings bytes ≡ true → (readings ≤ 32) × (bytes ≡ 8 * readings)
is_queue_lem readings bytes e =
    let told = both (leb readings 32) (eqb bytes (8 * readings)) e in
    (leb-true readings 32 told.0, eqb-true bytes (8 * readings) told.1)

abbrev pub Fits : (readings bytes room : ℕ) → Type 0
Fits readings bytes room = (readings ≤ room) × (readings ≤ 32) × (bytes ≡ 8 * readings)

pub is_taken_lem : (readings bytes room : ℕ) → queue_answer readings bytes room ≡ Ok tt → Fits readings bytes room
is_taken_lem readings bytes room =
    let By : Outcome ⊤ → Type 0 = λ a. a ≡ Ok tt → Fits readings bytes room in
    either_told By (leb readings room)
    (λ h. either_told By (is_queue readings bytes)
    (λ q e. (leb-true readings room h, (is_queue_lem readings bytes q).0, (is_queue_lem readings bytes q).1))
    (λ q e. absurd (omega (arith, ap outcome_number e))))
    (λ h e. absurd (omega (arith, ap outcome_number e)))
