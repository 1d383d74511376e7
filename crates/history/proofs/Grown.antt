-- What was sent stays sent. No contract cites this file.
--   sent_grows   a call adds to what was sent
--   in_more      what stands in a list stands in a longer one
-- Assumes nothing.
use Prim.Native.Nat.{ℕ}
use mathlib.Core.Path.{◌≡◌, refl, sym, ◌∙◌}
use mathlib.Core.Logic.{inr}
use mathlib.Core.List.{List, [], ◌∷◌, ◌++◌, append_assoc}
use lib.Dec.{eqb}
use Rattle.promise.proofs.Tests.{either}
use Rattle.clock.specs.declared.reading.VirtualLocalTime.{VirtualLocalTime}
use Rattle.clock.specs.declared.time.GlobalTime.{GlobalTime}
use Rattle.node.specs.Frame.{addressed_by}
use Rattle.node_call.specs.Calls.{reading_of, answer_to, given_by}
use Rattle.history.specs.History.{
  Link,
  Event,
  at_master,
  at_slave,
  History,
  master_after,
  master_record,
  Sent,
  time_in,
  noted,
  sent_in,
  In,
}

pub record Grown (before after : List Sent) : Type 0 where
  pub more : List Sent
  pub is : after ≡ more ++ before

one_more : (z : Sent) (l l' : List Sent) → Grown (z ∷ l) l' → Grown l l'
one_more z l l' g = record { more = g.more ++ (z ∷ []); is = g.is ∙ sym (append_assoc g.more (z ∷ []) l) }

pub noted_grows :
    (i : ℕ) (t : VirtualLocalTime) (g : GlobalTime) (frames : List (List ℕ)) (l : List Sent) →
    Grown l (noted i t g frames l)
noted_grows i t g [] l = record { more = []; is = refl }
noted_grows i t g (bytes ∷ rest) l =
    either (λ (l' : List Sent). Grown l (noted i t g rest l')) (eqb (addressed_by bytes) i)
    (one_more (record { bytes = bytes; at = t; time = g }) l _ (noted_grows i t g rest _)) (noted_grows i t g rest l)

pub sent_grows : (k : Link) (x : Event) (h : History) → Grown (sent_in k h) (sent_in k (x ∷ h))
sent_grows k (at_master c) h =
    noted_grows k.domain (reading_of c) (time_in (master_record k h).base (reading_of c))
    (given_by (answer_to (master_after k h) c)) (sent_in k h)
sent_grows k (at_slave c) h = record { more = []; is = refl }

pub in_more : {A : Type 0} (z : A) (more l : List A) → In z l → In z (more ++ l)
in_more z [] l p = p
in_more z (y ∷ more) l p = inr (in_more z more l p)
