-- 4 "domain above 15". No contract cites this file.
--   domain_above   on every reachable node a read, a set or a confirmation of a domain above 15 is answered by 4, if
--                  not by 1
-- Assumes nothing.
use Prim.Native.Nat.{ℕ, ◌%◌, ◌≤◌}
use mathlib.Core.Path.{◌≡◌, ap, ◌∙◌}
use mathlib.Core.Bool.{Bool, true, not, cond, ◌&&◌}
use native.Mathlib.Omega.{arith}
use lib.ListN.{drop}
use borrow.Author.Tests.{ne_eqb}
use Rattle.settings.specs.Node.{places}
use Rattle.admission.specs.declared.Needed.{Needed}
use Rattle.admission.specs.declared.Needed.TheVariants.{Master, Either}
use Rattle.admission.specs.Admission.{is_in}
use Rattle.domain.specs.Records.{record_at}
use Rattle.node.specs.declared.Node.{Node}
use Rattle.node_call.specs.Calls.{Call, frame, read, set, cycle, confirm, reading_of, answer_to, number_in}
use Rattle.node_laws.specs.Reachable.{Reachable}
use Rattle.node_laws.specs.Tests.{Tests, first_of, bad_reading, not_for, tests_of}
use Rattle.node_laws.specs.Apart.{AsksAbove}
use Rattle.node_laws.proofs.Reachable.{record_good}
use Rattle.node_laws.proofs.Order.{order}

-- of tests that begin with 1 and 4
fourth :
    (bad wrong : Bool) (tests : Tests) → wrong ≡ true →
    cond bad 1 (cond wrong 4 (first_of (drop 2 tests))) ≡ cond bad 1 4
fourth bad wrong tests e = ap (λ (b : Bool). cond bad 1 (cond b 4 (first_of (drop 2 tests)))) e

module _ (n : Node) (r : Reachable n) where
  -- the record looked up is another domain's
  no_such :
      (domain : ℕ) (needed : Needed) → places ≤ domain →
      not_for (record_at n.domains (domain % places)) domain needed ≡ true
  no_such domain needed h =
      let d = record_at n.domains (domain % places) in
      let own : d.number ≡ domain % places = (record_good n r (domain % places) (omega arith)).number in
      ap (λ (b : Bool). not (b && is_in d.settings.role needed))
      (ne_eqb domain d.number (λ e. omega (arith, e, own, h)))

  pub domain_above :
      (c : Call) → AsksAbove c → number_in (answer_to n c) ≡ cond (bad_reading n (reading_of c)) 1 4
  domain_above (frame t bytes) h = absurd h
  domain_above (read domain t) h =
      let c = read domain t in
      order n c ∙ fourth (bad_reading n t) _ (tests_of n c) (no_such domain Either (omega (arith, h)))
  domain_above (set domain t s ns) h =
      let c = set domain t s ns in
      order n c ∙ fourth (bad_reading n t) _ (tests_of n c) (no_such domain Master (omega (arith, h)))
  domain_above (cycle t out) h = absurd h
  domain_above (confirm domain t counter out) h =
      let c = confirm domain t counter out in
      order n c ∙ fourth (bad_reading n t) _ (tests_of n c) (no_such domain Master (omega (arith, h)))
