-- "A domain's answers don't depend on calls for other domains, save through number 1", for calls in any order. No
-- contract cites this file.
--   after_one     a record after a call for it depends on the kept reading through number 1 alone
--   undisturbed   on a reachable node a domain's own calls among others are answered as they are alone
-- Assumes nothing.
use Rattle.std.specs.Prelude.{Err, Ok, ⊤}
use Prim.Native.Nat.{ℕ, ◌%◌, ◌<◌}
use mathlib.Core.Path.{◌≡◌, refl, sym, ap, ◌∙◌}
use mathlib.Core.Bool.{Bool, true, false, cond, false≢true}
use mathlib.Core.List.{List, [], ◌∷◌}
use lib.ListN.{length, set as put}
use borrow.Author.Tests.{eqb-true}
use Rattle.clock.specs.declared.reading.VirtualLocalTime.{VirtualLocalTime}
use Rattle.frame_read.specs.Read.{read_of}
use Rattle.settings.specs.Node.{places}
use Rattle.admission.specs.FrameAdmission.{read_for}
use Rattle.domain.specs.declared.Domain.{Domain}
use Rattle.domain.specs.Records.{record_at}
use Rattle.call_frame.specs.FrameCall.{frame_call_as}
use Rattle.call_set.specs.SetCall.{set_call_as}
use Rattle.call_confirm.specs.ConfirmCall.{confirm_call_as}
use Rattle.node.specs.declared.Node.{Node}
use Rattle.node.specs.Frame.{addressed_by}
use Rattle.node_call.specs.Calls.{
  Call,
  frame,
  read,
  set,
  cycle,
  confirm,
  node_after,
  answer_to,
  answers_to,
}
use Rattle.node_laws.specs.Reachable.{AreCalls, Reachable}
use Rattle.node_laws.specs.Good.{Good}
use Rattle.node_laws.specs.Apart.{
  Own,
  keeping,
  Timely,
  is_own,
  own_of,
  own_answers,
  OthersElsewhere,
  OwnTimely,
  AllTimely,
  Undisturbed,
}
use Rattle.node_laws.proofs.Reachable.{call_good, reachable_good}
use Rattle.node_laws.proofs.Laws.{other_domains, own_domain, own_after}
use Rattle.node_laws.proofs.Through.{for_master, through_one}
use Rattle.frame.specs.declared.values.Frame.{Frame}
use Rattle.refusal.specs.Numbers.{Outcome}

-- ---- an admitted call makes the record without a look at the kept reading

module _ (d : Domain) (k l t : VirtualLocalTime) where
  frame_makes :
      (a : Outcome Frame) (bytes : List ℕ) →
      (frame_call_as a d k t bytes).domain ≡ (frame_call_as a d l t bytes).domain
  frame_makes (Err refusal) bytes = refl
  frame_makes (Ok values) bytes = refl

  set_makes :
      (a : Outcome ⊤) (seconds nanoseconds : ℕ) →
      (set_call_as a d k t seconds nanoseconds).domain ≡ (set_call_as a d l t seconds nanoseconds).domain
  set_makes (Err refusal) seconds nanoseconds = refl
  set_makes (Ok tt) seconds nanoseconds = refl

  confirm_makes :
      (a : Outcome ⊤) (counter length : ℕ) →
      (confirm_call_as a d k t counter length).domain ≡ (confirm_call_as a d l t counter length).domain
  confirm_makes (Err refusal) counter length = refl
  confirm_makes (Ok tt) counter length = refl

pub after_one :
    (n : Node) (k : VirtualLocalTime) (c : Call) (i : ℕ) → Own c i → Timely n c → Timely (keeping n k) c →
    (node_after (keeping n k) c).domains ≡ (node_after n c).domains
after_one n k (frame t bytes) i o p q =
    let at = addressed_by bytes in
    let d = record_at n.domains at in
    let admission = read_for (read_of bytes) d.number d.settings.role in
    rw (p, q) (ap (put n.domains at) (frame_makes d k n.kept t admission bytes))
after_one n k (read domain t) i o p q = refl
after_one n k (set domain t s ns) i o p q =
    let at = domain % places in
    let d = record_at n.domains at in
    rw (p, q) (ap (put n.domains at) (set_makes d k n.kept t (for_master d domain) s ns))
after_one n k (cycle t out) i o p q = absurd o
after_one n k (confirm domain t counter out) i o p q =
    let at = domain % places in
    let d = record_at n.domains at in
    rw (p, q)
    (ap (put n.domains at) (confirm_makes d k n.kept t (for_master d domain) counter (length out)))

-- ---- calls in any order

own_is : (c : Call) (i : ℕ) → is_own c i ≡ true → Own c i
own_is (frame t bytes) i e = eqb-true (addressed_by bytes) i e
own_is (read domain t) i e = eqb-true (domain % places) i e
own_is (set domain t s ns) i e = eqb-true (domain % places) i e
own_is (cycle t out) i e = absurd (false≢true e)
own_is (confirm domain t counter out) i e = eqb-true (domain % places) i e

module _ (i : ℕ) (below : i < places) where
  abbrev Same : Node → Node → Type 0
  Same n m = record_at n.domains i ≡ record_at m.domains i

  there : (n : Node) → Good n → i < length n.domains
  there n g = rw g.sixteen below

  same_after :
      (n m : Node) (c : Call) → Good n → Good m → Same n m → Own c i → Timely n c → Timely m c →
      Same (node_after n c) (node_after m c)
  same_after n m c g h same o p q =
      ap (λ (ds : List Domain). record_at ds i) (sym (after_one n m.kept c i o p q))
      ∙ (own_after (keeping n m.kept) m i (there n g) (there m h) same refl c o).0

  same_answers :
      (n m : Node) (cs : List Call) → Good n → Good m → Same n m → AreCalls cs → OthersElsewhere n cs i →
      OwnTimely n cs i → AllTimely m (own_of cs i) → own_answers n cs i ≡ answers_to m (own_of cs i)
  same_answers n m [] g h same are e p = λ q. refl
  same_answers n m (c ∷ rest) g h same are e p =
      step
      (λ m h same q.
      same_answers (node_after n c) m rest (call_good n c are.0 g) h same are.1 e.1 p.1 q)
      (is_own c i) refl
    where
      Later : Type 0
      Later =
          (m : Node) → Good m → Same (node_after n c) m → AllTimely m (own_of rest i) →
          own_answers (node_after n c) rest i ≡ answers_to m (own_of rest i)

      step :
          Later → (b : Bool) → is_own c i ≡ b → AllTimely m (cond b (c ∷ own_of rest i) (own_of rest i)) →
          let later = own_answers (node_after n c) rest i in
          cond b (answer_to n c ∷ later) later ≡ answers_to m (cond b (c ∷ own_of rest i) (own_of rest i))
      step later true w q =
          let o = own_is c i w in
          let answer : answer_to n c ≡ answer_to m c =
          sym (through_one n m.kept c (p.0 w) q.0) ∙ own_domain (keeping n m.kept) m c i o same refl
          in
          let others =
          later (node_after m c) (call_good m c are.0 h) (same_after n m c g h same o (p.0 w) q.0) q.1
          in
          λ j. answer j ∷ others j
      step later false w q = later m h (other_domains n c i (e.0 w) ∙ same) q

pub undisturbed :
    (n : Node) → Reachable n → (cs : List Call) (i : ℕ) → i < places → AreCalls cs → OthersElsewhere n cs i →
    Undisturbed n cs i
undisturbed n r cs i below =
    let good = reachable_good n r in same_answers i below n n cs good good refl
