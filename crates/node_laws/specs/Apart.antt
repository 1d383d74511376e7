-- Paper 01, "Refusal numbers": "A domain's answers don't depend on calls for other domains, save through number
-- 1 and, for masters, through S and the round": which calls are for a domain. Assumes nothing.
use Rattle.std.specs.Prelude.{ℕ, ◌%◌, ◌≤◌, ◌≡◌, ◌⊎◌, Bool, true, false, cond, List, [], ◌∷◌, eqb}
use Rattle.clock.specs.declared.reading.VirtualLocalTime.{VirtualLocalTime}
use Rattle.admission.specs.Reading.{is_good_reading}
use Rattle.master_rules.specs.Due.{is_master}
use Rattle.master_send.specs.Send.{send_of}
use Rattle.settings.specs.Node.{places}
use Rattle.domain.specs.declared.Domain.{Domain}
use Rattle.domain.specs.Records.{record_at}
use Rattle.node.specs.declared.Node.{Node}
use Rattle.node.specs.Frame.{addressed_by}
use Rattle.node_call.specs.Calls.{
  Call,
  frame,
  read,
  set,
  cycle,
  confirm,
  reading_of,
  node_after,
  Answer,
  answer_to,
  answers_to,
}

-- ---- The domain at place i is a master's.
abbrev pub is_master_at : Node → (i : ℕ) → Bool
is_master_at n i = is_master (record_at n.domains i).settings.role

-- ---- The call is not for the domain at place i; a main cycle is for masters.
abbrev pub Elsewhere : Node → Call → (i : ℕ) → Type 0
Elsewhere n (frame t bytes) i = i ≡ addressed_by bytes → ⊥
Elsewhere n (read domain t) i = Unit {0}
Elsewhere n (set domain t s ns) i = i ≡ domain % places → ⊥
Elsewhere n (cycle t out) i = is_master_at n i ≡ false
Elsewhere n (confirm domain t counter out) i = i ≡ domain % places → ⊥

-- ---- The call is for the domain at place i.
abbrev pub Own : Call → (i : ℕ) → Type 0
Own (frame t bytes) i = addressed_by bytes ≡ i
Own (read domain t) i = domain % places ≡ i
Own (set domain t s ns) i = domain % places ≡ i
Own (cycle t out) i = ⊥
Own (confirm domain t counter out) i = domain % places ≡ i

-- ---- Calls one after another, none of them for the domain at place i.
abbrev pub AllElsewhere : Node → List Call → (i : ℕ) → Type 0
AllElsewhere n [] i = Unit {0}
AllElsewhere n (c ∷ rest) i = Elsewhere n c i × AllElsewhere (node_after n c) rest i

-- ---- A node with another kept reading.
abbrev pub keeping : Node → VirtualLocalTime → Node
keeping n kept =
    record {
      domains = n.domains;
      kept = kept;
      syncs_per_cycle = n.syncs_per_cycle;
      round = n.round;
    }

-- ---- The reading of a call is good: number 1 is not given.
abbrev pub Timely : Node → Call → Type 0
Timely n c = is_good_reading n.kept (reading_of c) ≡ true

-- ---- The call asks for a "domain above 15"; a frame names one of four bits.
abbrev pub AsksAbove : Call → Type 0
AsksAbove (frame t bytes) = ⊥
AsksAbove (read domain t) = places ≤ domain
AsksAbove (set domain t s ns) = places ≤ domain
AsksAbove (cycle t out) = ⊥
AsksAbove (confirm domain t counter out) = places ≤ domain

-- ---- Calls for the domain at place i among others, in any order: whether a call is for it, the calls that are, and
-- the answers to these where they stand.
abbrev pub is_own : Call → (i : ℕ) → Bool
is_own (frame t bytes) i = eqb (addressed_by bytes) i
is_own (read domain t) i = eqb (domain % places) i
is_own (set domain t s ns) i = eqb (domain % places) i
is_own (cycle t out) i = false
is_own (confirm domain t counter out) i = eqb (domain % places) i

abbrev pub own_of : List Call → (i : ℕ) → List Call
own_of [] i = []
own_of (c ∷ rest) i = cond (is_own c i) (c ∷ own_of rest i) (own_of rest i)

abbrev pub own_answers : Node → List Call → (i : ℕ) → List Answer
own_answers n [] i = []
own_answers n (c ∷ rest) i =
    let later = own_answers (node_after n c) rest i in cond (is_own c i) (answer_to n c ∷ later) later

-- ---- A call leaves the settings in a record; a main cycle leaves a record as it was, or as the SYNC makes it that the
-- record itself sends.
abbrev pub SettingsStay : (before after : Domain) → Type 0
SettingsStay before after = after.settings ≡ before.settings

abbrev pub OwnSent : (before : Domain) → VirtualLocalTime → (after : Domain) → Type 0
OwnSent before t after = (after ≡ before) ⊎ (after ≡ (send_of before t).domain)

-- ---- The domain at place i is no master's.
abbrev pub NoMaster : Node → (i : ℕ) → Type 0
NoMaster n i = is_master_at n i ≡ false

-- ---- The calls that are not for the domain are for others; the reading of each call that is for the domain is good
-- where it stands.
abbrev pub OthersElsewhere : Node → List Call → (i : ℕ) → Type 0
OthersElsewhere n [] i = Unit {0}
OthersElsewhere n (c ∷ rest) i = (is_own c i ≡ false → Elsewhere n c i) × OthersElsewhere (node_after n c) rest i

abbrev pub OwnTimely : Node → List Call → (i : ℕ) → Type 0
OwnTimely n [] i = Unit {0}
OwnTimely n (c ∷ rest) i = (is_own c i ≡ true → Timely n c) × OwnTimely (node_after n c) rest i

abbrev pub AllTimely : Node → List Call → Type 0
AllTimely n [] = Unit {0}
AllTimely n (c ∷ rest) = Timely n c × AllTimely (node_after n c) rest

-- ---- The answers to the domain's own calls are those to its own calls alone, where no reading is refused in either.
abbrev pub Undisturbed : Node → List Call → (i : ℕ) → Type 0
Undisturbed n cs i =
    OwnTimely n cs i → AllTimely n (own_of cs i) → own_answers n cs i ≡ answers_to n (own_of cs i)
