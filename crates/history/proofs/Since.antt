-- What was sent and heard since a moment. No contract cites this file.
--   front        what was sent since a moment is the front of all that was sent
--   adds         what a call adds to what was heard since a moment
--   none_since   nothing was heard since a moment that is to come
--   found        the call that handed in a copy
--   row_since    the copies heard since a moment are of a row
-- Assumes nothing.
use Prim.Native.Nat.{ℕ, ◌+◌, ◌≤◌, ◌<◌}
use mathlib.Core.Path.{◌≡◌, refl, sym, ap, ◌∙◌, subst}
use mathlib.Core.Bool.{Bool, true, false, cond}
use mathlib.Core.List.{List, [], ◌∷◌, ◌++◌, append_assoc}
use native.Mathlib.Omega.{arith}
use borrow.Author.Tests.{leb-true, leb-false, lt-leb}
use lib.Dec.{leb}
use Rattle.promise.proofs.Tests.{either_told}
use Rattle.clock.specs.declared.reading.VirtualLocalTime.{VirtualLocalTime}
use Rattle.settings.specs.declared.domain_settings.DomainSettings.{DomainSettings}
use Rattle.node_call.specs.Calls.{frame, read, set, cycle, confirm}
use Rattle.history.specs.History.{
  Link,
  master_settings,
  on_master,
  on_slave,
  Event,
  at_master,
  at_slave,
  History,
  Sent,
  sent_in,
  is_heard,
  Heard,
  heard_by,
  heard_in,
}
use Rattle.history.specs.Demand.{
  Linked,
  AreCalls,
  InRange,
  now,
  moment_of,
  NeverFall,
  sent_since,
  heard_since,
  Copy,
  sendings,
  arrivals,
  Orderly,
}
use Rattle.history.proofs.Row.{Row}
use Rattle.history.proofs.Rows.{RowOf, row_before, Under, never_rise}
use Rattle.history.proofs.Ranges.{master_in_range}

-- ---- a history, and its older part

pub record Fine (k : Link) (h : History) : Type 0 where
  pub calls : AreCalls h
  pub fall : NeverFall k h
  pub range : InRange h

pub fine_before : (k : Link) (x : Event) (h : History) → Fine k (x ∷ h) → Fine k h
fine_before k x h g = record { calls = g.calls.0; fall = g.fall.0; range = g.range.0 }

-- a call that hands in nothing of the domain
abbrev pub Quiet : Link → Event → Type 0
Quiet k (at_master c) = Unit {0}
Quiet k (at_slave c) = heard_by k c ≡ []

pub nothing : (copies : List Copy) → ◌≡◌ {A = List Heard} [] (arrivals copies) → copies ≡ []
nothing [] e = refl
nothing (q ∷ older) e = let no : ◌≡◌ {A = ℕ} 0 1 = cc in absurd (omega arith)

-- ---- what was sent since a moment

record Front (l since : List Sent) : Type 0 where
  rest : List Sent
  split : l ≡ since ++ rest

module _ (k : Link) (moment : ℕ) where
  none_sent :
      (limit : ℕ) (l : List Sent) → Under limit l → limit + k.master_adds < moment →
      sent_since k moment l ≡ []
  none_sent limit [] u h = refl
  none_sent limit (z ∷ l) u h =
      rw (lt-leb moment (on_master k z.at) (omega (arith, u.0, h))) (none_sent limit l u.1 h)

  front :
      (m : DomainSettings) (i : ℕ) → m.confirmation_time ≤ m.period → (l : List Sent) → RowOf m i l →
      Front l (sent_since k moment l)
  front m i brief [] r = record { rest = []; split = refl }
  front m i brief (z ∷ l) r =
      either_told (Front (z ∷ l)) (leb moment (on_master k z.at))
      (λ e.
      let g = front m i brief l (row_before m i (z ∷ []) l r.latest r.row) in
      record { rest = g.rest; split = ap (λ (s : List Sent). z ∷ s) g.split })
      (λ e.
      let none = none_sent z.at.0 l (never_rise m i brief r.latest z l r.row) (leb-false _ _ e) in
      record { rest = z ∷ l; split = ap (λ (s : List Sent). s ++ (z ∷ l)) (sym none) })

  -- ---- what a call adds to what was heard since a moment

  pub data Passes : Event → Type 0 where
    quiet : (x : Event) → Quiet k x → Passes x
    early :
        (t : VirtualLocalTime) (bytes : List ℕ) → is_heard k bytes ≡ true → on_slave k t < moment →
        Passes (at_slave (frame t bytes))

  -- since the moment, the copies `copies` were heard up to the call x, after h
  pub data Adds (h : History) : Event → (copies : List Copy) → Type 0 where
    passes :
        (x : Event) (copies : List Copy) → Passes x → heard_since k moment (heard_in k h) ≡ arrivals copies →
        Adds h x copies
    arrives :
        (q : Copy) (older : List Copy) → is_heard k q.of.bytes ≡ true → moment ≤ on_slave k q.at →
        heard_since k moment (heard_in k h) ≡ arrivals older →
        Adds h (at_slave (frame q.at q.of.bytes)) (q ∷ older)

  arrives_as :
      (h : History) (x : Heard) (copies : List Copy) → is_heard k x.bytes ≡ true → moment ≤ on_slave k x.at →
      x ∷ heard_since k moment (heard_in k h) ≡ arrivals copies →
      Adds h (at_slave (frame x.at x.bytes)) copies
  arrives_as h x [] heard late e = let no : ◌≡◌ {A = ℕ} 0 1 = cc in absurd (omega arith)
  arrives_as h x (q ∷ older) heard late e =
      let same : record { bytes = q.of.bytes; at = q.at } ≡ x = cc in
      let next : heard_since k moment (heard_in k h) ≡ arrivals older = cc in
      subst
      (λ (x : Heard).
      is_heard k x.bytes ≡ true → moment ≤ on_slave k x.at →
      Adds h (at_slave (frame x.at x.bytes)) (q ∷ older))
      same
      (λ heard late. arrives q older heard late next)
      heard late

  heard_adds :
      (h : History) (t : VirtualLocalTime) (bytes : List ℕ) (copies : List Copy) → is_heard k bytes ≡ true →
      (b : Bool) → leb moment (on_slave k t) ≡ b →
      cond b (record { bytes = bytes; at = t } ∷ heard_since k moment (heard_in k h)) (heard_since k moment (heard_in k h))
      ≡ arrivals copies →
      Adds h (at_slave (frame t bytes)) copies
  heard_adds h t bytes copies heard true f e =
      arrives_as h (record { bytes = bytes; at = t }) copies heard (leb-true _ _ f) e
  heard_adds h t bytes copies heard false f e =
      passes (at_slave (frame t bytes)) copies (early t bytes heard (leb-false _ _ f)) e

  frame_adds :
      (h : History) (t : VirtualLocalTime) (bytes : List ℕ) (copies : List Copy) (b : Bool) → is_heard k bytes ≡ b →
      heard_since k moment (cond b (record { bytes = bytes; at = t } ∷ []) [] ++ heard_in k h) ≡ arrivals copies →
      Adds h (at_slave (frame t bytes)) copies
  frame_adds h t bytes copies true heard e = heard_adds h t bytes copies heard (leb moment (on_slave k t)) refl e
  frame_adds h t bytes copies false heard e =
      passes (at_slave (frame t bytes)) copies (quiet (at_slave (frame t bytes)) (rw heard refl)) e

  pub adds :
      (x : Event) (h : History) (copies : List Copy) →
      heard_since k moment (heard_in k (x ∷ h)) ≡ arrivals copies → Adds h x copies
  adds (at_master c) h copies e = passes (at_master c) copies (quiet (at_master c) tt) e
  adds (at_slave (frame t bytes)) h copies e = frame_adds h t bytes copies (is_heard k bytes) refl e
  adds (at_slave (read domain t)) h copies e = passes _ copies (quiet (at_slave (read domain t)) refl) e
  adds (at_slave (set domain t s ns)) h copies e = passes _ copies (quiet (at_slave (set domain t s ns)) refl) e
  adds (at_slave (cycle t out)) h copies e = passes _ copies (quiet (at_slave (cycle t out)) refl) e
  adds (at_slave (confirm domain t counter out)) h copies e =
      passes _ copies (quiet (at_slave (confirm domain t counter out)) refl) e

  none_next :
      (x : Event) (h : History) (copies : List Copy) → Adds h x copies → moment_of k x < moment →
      (heard_since k moment (heard_in k h) ≡ arrivals copies → copies ≡ []) → copies ≡ []
  none_next x h copies (passes y all p e) to-come before = before e
  none_next x h copies (arrives q older heard late e) to-come before = absurd (omega arith)

  pub none_since :
      (h : History) (copies : List Copy) → NeverFall k h → now k h < moment →
      heard_since k moment (heard_in k h) ≡ arrivals copies → copies ≡ []
  none_since [] copies fall to-come e = nothing copies e
  none_since (x ∷ h) copies fall to-come e =
      none_next x h copies (adds x h copies e) to-come
      (none_since h copies fall.0 (omega (arith, fall.1, to-come)))

  -- ---- the call that handed in a copy

  pub record Found (h : History) (q : Copy) (older : List Copy) : Type 0 where
    pub after : History
    pub before : History
    pub call : h ≡ after ++ (at_slave (frame q.at q.of.bytes) ∷ before)
    pub heard : is_heard k q.of.bytes ≡ true
    pub next : heard_since k moment (heard_in k before) ≡ arrivals older
    pub fine : Fine k (at_slave (frame q.at q.of.bytes) ∷ before)

  then_found : (x : Event) (h : History) (q : Copy) (older : List Copy) → Found h q older → Found (x ∷ h) q older
  then_found x h q older g =
      record {
        after = x ∷ g.after;
        before = g.before;
        call = ap (λ (h : History). x ∷ h) g.call;
        heard = g.heard;
        next = g.next;
        fine = g.fine;
      }

  found_next :
      (x : Event) (h : History) (newer older : List Copy) (q : Copy) → Adds h x (newer ++ (q ∷ older)) →
      Fine k (x ∷ h) →
      ((newer : List Copy) → heard_since k moment (heard_in k h) ≡ arrivals (newer ++ (q ∷ older)) → Found h q older) →
      Found (x ∷ h) q older
  found_next x h [] older q (passes y all p e) g before = then_found x h q older (before [] e)
  found_next x h [] older q (arrives y all heard late e) g before =
      record { after = []; before = h; call = refl; heard = heard; next = e; fine = g }
  found_next x h (z ∷ newer) older q (passes y all p e) g before = then_found x h q older (before (z ∷ newer) e)
  found_next x h (z ∷ newer) older q (arrives y all heard late e) g before = then_found x h q older (before newer e)

  pub found :
      (h : History) → Fine k h → (newer older : List Copy) (q : Copy) →
      heard_since k moment (heard_in k h) ≡ arrivals (newer ++ (q ∷ older)) → Found h q older
  found [] g [] older q e = let no : ◌≡◌ {A = ℕ} 0 1 = cc in absurd (omega arith)
  found [] g (z ∷ newer) older q e = let no : ◌≡◌ {A = ℕ} 0 1 = cc in absurd (omega arith)
  found (x ∷ h) g newer older q e =
      found_next x h newer older q (adds x h (newer ++ (q ∷ older)) e) g
      (λ newer. found h (fine_before k x h g) newer older q)

-- ---- the copies are of the front of a row

pub row_older :
    (k : Link) (rest : List Sent) (newer older : List Copy) →
    RowOf (master_settings k) k.domain (sendings (newer ++ older) ++ rest) →
    RowOf (master_settings k) k.domain (sendings older ++ rest)
row_older k rest [] older r = r
row_older k rest (q ∷ newer) older r =
    row_older k rest newer older
    (row_before (master_settings k) k.domain (q.of ∷ []) (sendings (newer ++ older) ++ rest) r.latest r.row)

pub record RowSince (k : Link) (copies : List Copy) : Type 0 where
  pub rest : List Sent
  pub row : RowOf (master_settings k) k.domain (sendings copies ++ rest)

pub row_since :
    (k : Link) → Linked k → (moment : ℕ) (h : History) → RowOf (master_settings k) k.domain (sent_in k h) →
    (o : Orderly k moment h) (newer older : List Copy) → o.copies ≡ newer ++ older → RowSince k older
row_since k l moment h r o newer older split =
    let m = master_settings k in
    let below = (master_in_range k l).below in
    let g = front k moment m k.domain (omega (arith, below)) (sent_in k h) r in
    let all =
    g.split
    ∙ ap (λ (s : List Sent). s ++ g.rest) (o.all ∙ ap (λ (c : List Copy). o.under_way ++ sendings c) split)
    ∙ append_assoc o.under_way (sendings (newer ++ older)) g.rest in
    let row = subst (Row m k.domain r.latest) all r.row in
    record {
      rest = g.rest;
      row =
          row_older k g.rest newer older
          (row_before m k.domain o.under_way (sendings (newer ++ older) ++ g.rest) r.latest row);
    }
