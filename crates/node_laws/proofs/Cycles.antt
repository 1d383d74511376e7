-- Laws of the main cycle's round. No contract cites this file.
--   due_count      the number of frames of a round is that of the due domains, at most S
--   round_each     what holds of the frame of each record that sends holds of each frame of the round
--   pasted_whole   they are written one after another, and the bytes beyond them stay
--   cycle_whole    a main cycle that is not refused counts and writes them so
--   addressed      a frame names the domain of its values
--   given_here     the frames that are cut from the buffer are those of the round
--   cycle_given    so are those that a main cycle gives that is not refused
-- Assumes nothing.
use Rattle.std.specs.Prelude.{None, Option, Some}
use Prim.Native.Nat.{ℕ, zero, suc, ◌+◌, ◌*◌, ◌≤◌, ◌<◌, min}
use mathlib.Core.Path.{◌≡◌, refl, sym, ap, ◌∙◌}
use mathlib.Core.Bool.{Bool, true, false, cond}
use mathlib.Core.List.{List, [], ◌∷◌, ◌++◌, append_assoc, flat_map}
use native.Mathlib.Omega.{arith}
use lib.ListN.{length, take, drop, length-append, length-drop}
use lib.Seq.{drop-append-add, drop-drop, take_at, drop_at}
use borrow.Author.Tests.{leb-true, le-leb}
use Rattle.promise.proofs.Tests.{either, either_told}
use Rattle.clock.specs.declared.reading.VirtualLocalTime.{VirtualLocalTime}
use Rattle.frame.specs.declared.data_ids.DataIds.{DataIds}
use Rattle.frame.specs.declared.values.Sync.{Sync}
use Rattle.frame.specs.declared.values.Frame.{Frame}
use Rattle.frame.specs.declared.values.Frame.TheVariants.{Sync as sync}
use Rattle.frame.specs.Values.{domain_in}
use Rattle.frame_write.specs.Write.{bytes_of}
use Rattle.frame_write.proofs.Laws.{bytes_length}
use Rattle.frame_laws.proofs.Laws.{named_back}
use Rattle.refusal.specs.declared.Refusal.TheVariants.{NoRoom}
use Rattle.admission.specs.Reading.{is_good_reading}
use Rattle.domain.specs.declared.Domain.{Domain}
use Rattle.master_send.specs.Send.{is_due, send_of}
use Rattle.settings.specs.Node.{places}
use Rattle.domain.specs.Records.{record_at}
use Rattle.round.specs.Round.{frames_by, round_of, put_at, pasted}
use Rattle.round.specs.FirstDue.{Each, served_of, frame_by}
use Rattle.round.proofs.Walk.{sum_below}
use Rattle.round.proofs.FirstDue.{round_frames, round_count, served_below}
use Rattle.node.specs.declared.Node.{Node}
use Rattle.node.specs.Frame.{addressed_by}
use Rattle.node.specs.CycleAnswer.{cycle_count}
use Rattle.node.specs.Cycle.{is_room_for, gone_from, cycled_by, cycle_refused, cycle_bytes}
use Rattle.node_call.specs.Calls.{cycle, sends, answer_to, number_in, eights, given_by}
use Rattle.node_laws.specs.Due.{count_below, due_count}
use Rattle.node_laws.specs.Back.{joined, IsEight, OfSent}
use Rattle.node_laws.specs.Demands.{SyncsStand}
use Rattle.node.specs.declared.NodeStep.{NodeStep}
use Rattle.refusal.specs.Numbers.{Outcome, outcome_number}

-- ---- how many there are

count_sum : (test : ℕ → Bool) (k : ℕ) → sum_below (λ (p : ℕ). cond (test p) 1 0) k ≡ count_below test k
count_sum test zero = refl
count_sum test (suc k) = ap (λ (n : ℕ). n + cond (test k) 1 0) (count_sum test k)

pub due_count_lem :
    (most : ℕ) (t : VirtualLocalTime) (ds : List Domain) (first : ℕ) →
    length (round_of ds first t most).frames ≡ min most (due_count ds t)
due_count_lem most t ds first =
    round_count ds first t most ∙ ap (min most) (count_sum (λ (p : ℕ). is_due (record_at ds p) t) places)

-- ---- what holds of each frame of a round

each_by :
    (P : List ℕ → Type 0) (a : Option Sync) (ids : DataIds) (rest : List (List ℕ)) →
    ((s : Sync) → a ≡ Some s → P (bytes_of ids (sync s))) → Each P rest → Each P (frames_by a ids ++ rest)
each_by P (Some s) ids rest p e = (p s refl, e)
each_by P None ids rest p e = e

module _ (P : List ℕ → Type 0) (most : ℕ) (t : VirtualLocalTime) (ds : List Domain) (p : OfSent P t ds) where
  each_said :
      (ps : List ℕ) → Each (λ (i : ℕ). i < places) ps → Each P (flat_map (λ (i : ℕ). frame_by (record_at ds i) t) ps)
  unfolding flat_map
  each_said [] h = tt
  each_said (i ∷ ps) h =
      each_by P (send_of (record_at ds i) t).answer (record_at ds i).settings.ids _ (p i (omega (arith, h.0)))
      (each_said ps h.1)

  pub round_each : (first : ℕ) → Each P (round_of ds first t most).frames
  round_each first =
      rw (round_frames ds first t most) (each_said (served_of ds first t most) (served_below ds first t most))

-- ---- written one after another

put_on :
    (frame : List ℕ) (sent : ℕ) (done left : List ℕ) → length done ≡ 8 * sent → 8 ≤ length left →
    put_at frame sent (done ++ left) ≡ done ++ frame ++ drop 8 left
put_on frame sent done left e h =
    let room : 8 * sent + 8 ≤ length (done ++ left) = omega (arith, length-append done left) in
    let beyond = ap (λ (n : ℕ). drop (n + 8) (done ++ left)) (sym e) ∙ drop-append-add done left 8 in
    rw (le-leb (8 * sent + 8) (length (done ++ left)) room)
    (λ i. take_at done left (8 * sent) e i ++ frame ++ beyond i)

pasted_on :
    (sent : ℕ) (frames : List (List ℕ)) (done left : List ℕ) → length done ≡ 8 * sent → Each IsEight frames →
    8 * length frames ≤ length left →
    pasted sent frames (done ++ left) ≡ done ++ (joined frames ++ drop (8 * length frames) left)
pasted_on sent [] done left e each h = refl
pasted_on sent (frame ∷ rest) done left e each h =
    let eight : 8 * suc (length rest) ≡ 8 + 8 * length rest = omega arith in
    let more : length (done ++ frame) ≡ 8 * (sent + 1) = omega (arith, length-append done frame, each.0) in
    let fits : 8 * length rest ≤ length (drop 8 left) = omega (arith, length-drop 8 left) in
    ap (pasted (sent + 1) rest) (put_on frame sent done left e (omega arith))
    ∙ pasted_on (sent + 1) rest (done ++ frame) (drop 8 left) more each.1 fits
    ∙ rw (eight, drop-drop (8 * length rest) 8 left) (simp append_assoc)

pub pasted_whole :
    (frames : List (List ℕ)) (out : List ℕ) → Each IsEight frames → 8 * length frames ≤ length out →
    pasted 0 frames out ≡ joined frames ++ drop (8 * length frames) out
pasted_whole frames out each h = pasted_on 0 frames [] out refl each h

-- ---- found again: a frame names its domain, and frames of 8 bytes are cut from what they were written into

pub addressed : (ids : DataIds) (f : Frame) → domain_in f < places → addressed_by (bytes_of ids f) ≡ domain_in f
addressed ids f h = omega (arith, named_back ids f h)

eights_back :
    (frames : List (List ℕ)) (rest : List ℕ) → Each IsEight frames →
    eights (length frames) (joined frames ++ rest) ≡ frames
eights_back [] rest each = refl
eights_back (f ∷ fs) rest each =
    let split = append_assoc f (joined fs) rest in
    λ i. (ap (take 8) split ∙ take_at f (joined fs ++ rest) 8 each.0) i
    ∷ (ap (λ (l : List ℕ). eights (length fs) (drop 8 l)) split
    ∙ ap (eights (length fs)) (drop_at f (joined fs ++ rest) 8 each.0)
    ∙ eights_back fs rest each.1)
    i

-- ---- the main cycle

module _ (n : Node) (t : VirtualLocalTime) (out : List ℕ) where
  abbrev sent : List (List ℕ)
  sent = (gone_from n t).frames

  abbrev count : ℕ
  count = min n.syncs_per_cycle (due_count n.domains t)

  abbrev Whole : NodeStep (Outcome ℕ) → Type 0
  Whole r =
      outcome_number r.answer ≡ 0 →
      sends (outcome_number r.answer) (cycle_count r.answer) (cycle_bytes r.answer n t out)
      ≡ sends 0 count (joined sent ++ drop (8 * count) out)

  counted : length sent ≡ count
  counted = due_count_lem n.syncs_per_cycle t n.domains n.round

  all_eight : Each IsEight sent
  all_eight =
      round_each IsEight n.syncs_per_cycle t n.domains
      (λ i h s e. bytes_length (record_at n.domains i).settings.ids (sync s)) n.round

  fits : is_room_for n (length out) ≡ true → 8 * length sent ≤ length out
  fits room = omega (arith, leb-true (8 * n.syncs_per_cycle) (length out) room, counted)

  stand : is_room_for n (length out) ≡ true → pasted 0 sent out ≡ joined sent ++ drop (8 * length sent) out
  stand room = pasted_whole sent out all_eight (fits room)

  whole :
      (room : Bool) → is_room_for n (length out) ≡ room →
      Whole (cond room (cycled_by n t (gone_from n t)) (cycle_refused n NoRoom))
  whole false e = λ z. absurd (omega arith)
  whole true e =
      λ z i. sends 0 (counted i) ((stand e ∙ ap (λ (k : ℕ). joined sent ++ drop (8 * k) out) counted) i)

  pub cycle_whole : SyncsStand n t out
  cycle_whole =
      either Whole (is_good_reading n.kept t) (whole (is_room_for n (length out)) refl) (λ z. absurd (omega arith))

  pub given_here : is_room_for n (length out) ≡ true → eights (length sent) (pasted 0 sent out) ≡ sent
  given_here room =
      ap (eights (length sent)) (stand room) ∙ eights_back sent (drop (8 * length sent) out) all_eight

  abbrev Given : NodeStep (Outcome ℕ) → Type 0
  Given r =
      outcome_number r.answer ≡ 0 → eights (cycle_count r.answer) (cycle_bytes r.answer n t out) ≡ sent

  pub cycle_given :
      number_in (answer_to n (cycle t out)) ≡ 0 → given_by (answer_to n (cycle t out)) ≡ (gone_from n t).frames
  cycle_given =
      either Given (is_good_reading n.kept t)
      (either_told Given (is_room_for n (length out)) (λ room z. given_here room) (λ none z. absurd (omega arith)))
      (λ z. absurd (omega arith))
