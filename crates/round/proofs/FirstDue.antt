-- The round serves the first S due domains, and only these: `round_of` is a round as `FirstDue` tells it, and
-- there is no other. No contract cites this file.
--   goes_told        the turns of a round, told by the places they serve
--   round_frames     the frames of a round are those of the served, of the records as they stood before it
--   round_next       the next round starts after the last of them
--   served_apart     no place is served twice
--   served_below     each that is served is a place of the node
--   served_due       and is due
--   served_count     their number is that of the due domains, at most S
--   served_full      a due domain is passed over only where S others are served
--   round_count      as many frames are sent
--   first_due        the round is as `FirstDue` tells it
--   serves_only      the places that are served fix a round
--   first_due_only   so that no other is as `FirstDue` tells it
-- Assumes nothing.
use Rattle.std.specs.Prelude.{None, Option, Some, is_some}
use Prim.Native.Nat.{ℕ, zero, suc, ◌+◌, ◌-◌, ◌%◌, ◌≤◌, ◌<◌, min}
use mathlib.Core.Path.{◌≡◌, refl, sym, ap, ◌∙◌, subst}
use mathlib.Core.Logic.{◌≢◌}
use mathlib.Core.Bool.{Bool, true, false, cond}
use mathlib.Core.List.{List, ◌∷◌, flat_map}
use native.Mathlib.Nat.{mod-lt, mod-eq_of_lt, sub-zero}
use native.Mathlib.Omega.{arith}
use lib.Dec.{ltb}
use lib.ListN.{length, set, length-take}
use lib.Seq.{take-nil, set-get_or, ext_get_or}
use borrow.Author.Tests.{ltb-true, ltb-false}
use Rattle.promise.specs.Only.{OnlyOne}
use Rattle.clock.specs.declared.reading.VirtualLocalTime.{VirtualLocalTime}
use Rattle.frame.specs.declared.data_ids.DataIds.{DataIds}
use Rattle.settings.specs.Domain.{absent_held}
use Rattle.settings.specs.Node.{places}
use Rattle.domain.specs.declared.Domain.{Domain}
use Rattle.domain.specs.Fresh.{fresh_of}
use Rattle.master_send.specs.Send.{due_in, is_due, send_as, send_of}
use Rattle.domain.specs.Records.{record_at}
use Rattle.round.specs.Turn.{turn_of, next_place, next_after}
use Rattle.round.specs.Round.{frames_by, sent_after, Gone, before, goes, round_of}
use Rattle.round.specs.FirstDue.{walk, due_among, served_of}
use Rattle.round.specs.FirstDue.{Each, NotIn, AllApart, next_behind, frame_by, Serves, FirstDue}
use Rattle.round.proofs.Places.{each_by, each_with, each_due, each_take, apart_due, apart_take}
use Rattle.round.proofs.Places.{due_true, due_sum, first_full, said_count, among}
use Rattle.round.proofs.Walk.{sum_below, walk_below, walk_apart, walk_all, walk_sum}
use Rattle.round.proofs.Serve.{after_length, after_other, after_served}
use Rattle.round.proofs.Serve.{Told, saying, told_of, told, told_rests, told_serves}
use Rattle.domain.specs.declared.DomainStep.{DomainStep}
use Rattle.frame.specs.declared.values.Sync.{Sync}
use Rattle.master_rules.specs.declared.due.Due.{Due}

abbrev none : Domain
none = fresh_of 0 absent_held

abbrev gone : Told Domain (List ℕ) → Gone
gone r = record { domains = r.0; next = r.1; frames = r.2 }

-- ---- the round as an instance of what is told of any records
module _ (t : VirtualLocalTime) where
  abbrev due : Domain → Bool
  due d = is_due d t

  abbrev serve : Domain → Domain
  serve d = (send_of d t).domain

  abbrev say : Domain → List (List ℕ)
  say d = frame_by d t

  abbrev told_by : (left : ℕ) → List ℕ → List Domain → (next : ℕ) → Told Domain (List ℕ)
  told_by = told places none due serve say

  module _ (most k at sent : ℕ) (ds : List Domain) (next : ℕ) (h : suc k ≤ places) (a : at < places)
      (ih : (sent : ℕ) (ds : List Domain) (next : ℕ) →
      goes k (next_place places at) sent most t ds next
      ≡ gone (told_by (most - sent) (walk places k (next_place places at)) ds next)) where
    abbrev d : Domain
    d = record_at ds at

    abbrev ws : List ℕ
    ws = walk places k (next_place places at)

    -- the turn s of the record at this place, and then the turns that are left
    abbrev Turned : DomainStep (Option Sync) → Type 0
    Turned s =
        before (frames_by s.answer d.settings.ids)
        (goes k (next_place places at) (sent_after s.answer sent) most t (set ds at s.domain)
        (next_after s.answer at next))
        ≡ gone (told_by (most - sent) (at ∷ ws) ds next)

    idle :
        told_by (most - sent) (at ∷ ws) ds next ≡ told_by (most - sent) ws ds next →
        Turned (record { answer = None; domain = d })
    idle e =
        ap (λ (l : List Domain). goes k (next_place places at) sent most t l next) (set-get_or ds at none)
        ∙ ih sent ds next ∙ sym (ap gone e)

    -- what is told once this record has sent by x
    abbrev Sends : Option Due → Type 0
    Sends x =
        told_by (suc (most - (sent + 1))) (at ∷ ws) ds next
        ≡ saying (frames_by (send_as x d t).answer d.settings.ids)
        (told_by (most - (sent + 1)) ws (set ds at (send_as x d t).domain) (next_place places at))

    by_due : (x : Option Due) → due_in d t ≡ x → sent < most → Turned (send_as x d t)
    by_due None e m = idle (told_rests places none due serve say (most - sent) at ws ds next (ap is_some e))
    by_due (Some x) e m =
        let more = most - (sent + 1) in
        let left : most - sent ≡ suc more = omega arith in
        let others = (walk_apart places (suc k) at h a).0 in
        let sends = subst Sends e (told_serves places none due serve say more at ws ds next (ap is_some e) others) in
        let frames = frames_by (send_as (Some x) d t).answer d.settings.ids in
        let after = set ds at (send_as (Some x) d t).domain in
        let here = ap (next_place places) (mod-eq_of_lt a) in
        ap (λ (n : ℕ). before frames (goes k (next_place places at) (sent + 1) most t after n)) here
        ∙ ap (before frames) (ih (sent + 1) after (next_place places at))
        ∙ sym (ap gone sends) ∙ sym (ap (λ (j : ℕ). gone (told_by j (at ∷ ws) ds next)) left)

    by_turn : (b : Bool) → ltb sent most ≡ b → Turned (turn_of b d t)
    by_turn true e = by_due (due_in d t) refl (ltb-true sent most e)
    by_turn false e =
        let left : most - sent ≡ 0 = omega (arith, ltb-false sent most e) in
        idle (ap (λ (j : ℕ). told_by j (at ∷ ws) ds next) left ∙ sym (ap (λ (j : ℕ). told_by j ws ds next) left))

  pub goes_told :
      (most k at sent : ℕ) (ds : List Domain) (next : ℕ) → k ≤ places → at < places →
      goes k at sent most t ds next ≡ gone (told_by (most - sent) (walk places k at) ds next)
  unfolding goes flat_map
  goes_told most zero at sent ds next h a =
      sym (ap (λ (l : List ℕ). gone (told_of places none due serve say l ds next)) (take-nil (most - sent)))
  goes_told most (suc k) at sent ds next h a =
      by_turn most k at sent ds next h a
      (λ s l n. goes_told most k (next_place places at) s l n (omega arith) (mod-lt (at + 1) (omega arith)))
      (ltb sent most) refl

-- ---- the frames of a round, and where the next one starts

begun : (first : ℕ) → first % places < places
begun first = mod-lt first (omega arith)

module _ (ds : List Domain) (first : ℕ) (t : VirtualLocalTime) (most : ℕ) where
  round_told :
      round_of ds first t most
      ≡ gone (told_of places none (due t) (serve t) (say t) (served_of ds first t most) ds first)
  round_told =
      goes_told t most places (first % places) 0 ds first (omega arith) (begun first)
      ∙ ap (λ (j : ℕ). gone (told_by t j (walk places places (first % places)) ds first)) (sub-zero most)

  pub round_frames :
      (round_of ds first t most).frames
      ≡ flat_map (λ (p : ℕ). frame_by (record_at ds p) t) (served_of ds first t most)
  round_frames = ap (λ (g : Gone). g.frames) round_told

  pub round_next : (round_of ds first t most).next ≡ next_behind places (served_of ds first t most) first
  round_next = ap (λ (g : Gone). g.next) round_told

-- ---- what is served

one_by :
    (x : Option Due) (d : Domain) (t : VirtualLocalTime) (ids : DataIds) → is_some x ≡ true →
    length (frames_by (send_as x d t).answer ids) ≡ 1
one_by (Some due) d t ids e = refl
one_by None d t ids e = cc

frame_one : (d : Domain) (t : VirtualLocalTime) → is_due d t ≡ true → length (frame_by d t) ≡ 1
frame_one d t = one_by (due_in d t) d t d.settings.ids

module _ (ds : List Domain) (first : ℕ) (t : VirtualLocalTime) (most : ℕ) where
  abbrev is_due_at : ℕ → Bool
  is_due_at p = is_due (record_at ds p) t

  abbrev one_at : ℕ → ℕ
  one_at p = cond (is_due_at p) 1 0

  abbrev way : List ℕ
  way = walk places places (first % places)

  abbrev lined : List ℕ
  lined = due_among is_due_at way

  pub served_apart : AllApart (served_of ds first t most)
  served_apart =
      apart_take most lined
      (apart_due is_due_at way (walk_apart places places (first % places) (omega arith) (begun first)))

  pub served_below : Each (λ (p : ℕ). p < places) (served_of ds first t most)
  served_below =
      each_take (λ (p : ℕ). p < places) most lined
      (each_due (λ (p : ℕ). p < places) is_due_at way (walk_below places places (first % places) (begun first)))

  pub served_due : Each (λ (p : ℕ). is_due (record_at ds p) t ≡ true) (served_of ds first t most)
  served_due = each_take (λ (p : ℕ). is_due_at p ≡ true) most lined (due_true is_due_at way)

  pub served_count :
      length (served_of ds first t most) ≡ min most (sum_below (λ (p : ℕ). cond (is_due (record_at ds p) t) 1 0) places)
  served_count =
      length-take most lined
      ∙ ap (min most) (due_sum is_due_at way ∙ walk_sum places one_at (first % places) (begun first))

  pub served_full :
      (p : ℕ) → p < places → is_due (record_at ds p) t ≡ true → NotIn p (served_of ds first t most) →
      length (served_of ds first t most) ≡ most
  served_full p b d =
      first_full is_due_at p d most way
      (λ lacks. walk_all places (λ (q : ℕ). q ≢ p) p b (first % places) (begun first) lacks refl)

  said_one :
      length (flat_map (λ (p : ℕ). frame_by (record_at ds p) t) (served_of ds first t most))
      ≡ length (served_of ds first t most)
  said_one =
      let ps = served_of ds first t most in
      said_count _ ps (each_by (λ (p : ℕ). frame_one (record_at ds p) t) ps served_due)

  pub round_count :
      length (round_of ds first t most).frames
      ≡ min most (sum_below (λ (p : ℕ). cond (is_due (record_at ds p) t) 1 0) places)
  round_count = ap length (round_frames ds first t most) ∙ said_one ∙ served_count

  -- ---- the round

  pub first_due : length ds ≡ places → FirstDue ds first t most (round_of ds first t most)
  first_due size =
      let ps = served_of ds first t most in
      let there : Each (λ (p : ℕ). p < length ds) ps = rw size served_below in
      subst (FirstDue ds first t most) (sym (round_told ds first t most))
      (record {
        once = served_apart;
        sends = after_served none (serve t) ps ds served_apart there;
        stays = λ p h. after_other none (serve t) p ps ds h;
        size = after_length none (serve t) ps ds;
        next_one = refl;
        frames = refl;
        count = said_one;
      })

-- ---- and no other

module _ (ds : List Domain) (first : ℕ) (t : VirtualLocalTime) (served : List ℕ) (x y : Gone)
    (p : Serves ds first t served x) (q : Serves ds first t served y) where
  abbrev Same : ℕ → Type 0
  Same j = record_at x.domains j ≡ record_at y.domains j

  same_at : (j : ℕ) → Same j
  same_at j =
      among Same (Same j) j (λ e. e) served (each_with {R = Same} (λ j a b. a ∙ sym b) served p.sends q.sends)
      (λ others. p.stays j others ∙ sym (q.stays j others))

  same_round : x ≡ y
  same_round =
      let domains = ext_get_or none x.domains y.domains (p.size ∙ sym q.size) (λ j h. same_at j) in
      λ i. record {
        domains = domains i;
        next = (p.next_one ∙ sym q.next_one) i;
        frames = (p.frames ∙ sym q.frames) i;
      }

pub serves_only :
    (ds : List Domain) (first : ℕ) (t : VirtualLocalTime) (served : List ℕ) →
    OnlyOne (λ (g : Gone). Serves ds first t served g)
serves_only ds first t served = same_round ds first t served

pub first_due_only :
    (ds : List Domain) (first : ℕ) (t : VirtualLocalTime) (most : ℕ) →
    OnlyOne (λ (g : Gone). FirstDue ds first t most g)
first_due_only ds first t most = serves_only ds first t (served_of ds first t most)
