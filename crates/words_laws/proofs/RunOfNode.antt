-- From the words of a node on, the words after any calls are those of the node after them; and the words that a fresh
-- node has are those of one that is reachable. Assumes nothing.
use Prim.Native.Nat.{ℕ, zero, suc, ◌+◌, ◌*◌}
use mathlib.Core.Path.{◌≡◌, refl, sym, ap, subst, ◌∙◌}
use mathlib.Core.Bool.{true}
use mathlib.Core.List.{List, [], ◌∷◌}
use native.Mathlib.Omega.{arith}
use lib.ListN.{length, get_or}
use Rattle.promise.proofs.Tests.{either}
use Rattle.settings.specs.declared.domain_settings.DomainSettings.{DomainSettings}
use Rattle.settings.specs.Node.{places}
use Rattle.settings.specs.Domain.{absent_held, no_settings}
use Rattle.node.specs.declared.Node.{Node}
use Rattle.node.specs.New.{new_of}
use Rattle.node_call.specs.Calls.{Call, frame, read, set, cycle, confirm, node_after, answers_to, node_after_all}
use Rattle.node_laws.specs.Reachable.{IsCall, AreCalls, are_ids, all_ids, Reachable, new, after}
use Rattle.record_words.specs.Fits.{SettingsFit}
use Rattle.record_words.specs.Given.{is_coded}
use Rattle.record_words.proofs.Back.{settings_fit}
use Rattle.node_words.specs.Words.{part_of}
use Rattle.node_words.specs.Node.{list_by, node_words, NodeFits}
use Rattle.words_new.specs.New.{given_at, node_given}
use Rattle.words_laws.specs.Run.{words_after, answers_on, words_after_all}
use Rattle.words_laws.proofs.Parts.{by_at}
use Rattle.words_laws.proofs.Back.{node_size_lem, node_back, words_node_fits, AllFit, new_fits}
use Rattle.words_laws.proofs.CallsOfNode.{frame_of_node, set_of_node, confirm_of_node}
use Rattle.words_laws.proofs.CycleOfNode.{cycle_of_node}
use Rattle.words_laws.proofs.Run.{same, same_answers}

-- ---- From the words of a node on.
pub of_node : (n : Node) → NodeFits n → (c : Call) → IsCall c → words_after (node_words n) c ≡ node_words (node_after n c)
of_node n f (frame t bytes) is = frame_of_node n f t.0 bytes is
of_node n f (read domain t) is = refl
of_node n f (set domain t s ns) is = set_of_node n f domain t.0 s ns
of_node n f (cycle t out) is = cycle_of_node n f t.0 (length out)
of_node n f (confirm domain t counter out) is = confirm_of_node n f domain t.0 counter out

fits_after : (n : Node) → NodeFits n → (c : Call) → IsCall c → NodeFits (node_after n c)
fits_after n f c is =
    let s = same (node_words n) (node_size_lem n f.sixteen) c is in
    subst NodeFits (s.node ∙ ap (λ (m : Node). node_after m c) (node_back n f))
    (words_node_fits (words_after (node_words n) c))

pub of_node_all :
    (n : Node) → NodeFits n → (cs : List Call) → AreCalls cs →
    words_after_all (node_words n) cs ≡ node_words (node_after_all n cs)
of_node_all n f [] are = refl
of_node_all n f (c ∷ rest) are =
    ap (λ (ws : List ℕ). words_after_all ws rest) (of_node n f c are.0)
    ∙ of_node_all (node_after n c) (fits_after n f c are.0) rest are.1

-- ---- What words give are settings that fit, with sixteen DataIDs of each kind.
none_fit : SettingsFit no_settings
none_fit =
    let f = settings_fit [] in
    record {
      confirmation = f.confirmation;
      jump = f.jump;
      hysteresis = f.hysteresis;
      count = f.count;
      user = f.user;
      sync = f.sync;
      fup = f.fup;
    }

given_fit : (given : List ℕ) (at : ℕ) → SettingsFit (given_at given at)
given_fit given at =
    let part = part_of (1 + 11 * at) 11 given in
    either SettingsFit (is_coded (get_or part 5 0) (get_or part 6 0)) (settings_fit part) none_fit

all_fit : (given : List ℕ) → AllFit (node_given given).domains
all_fit given i lt =
    subst SettingsFit (sym (by_at places (given_at given) 0 i i absent_held lt (omega arith))) (given_fit given i)

given_ids : (given : List ℕ) (at : ℕ) → are_ids (given_at given at).ids ≡ true
given_ids given at =
    let part = part_of (1 + 11 * at) 11 given in
    either (λ (s : DomainSettings). are_ids s.ids ≡ true) (is_coded (get_or part 5 0) (get_or part 6 0)) refl refl

all_ids_lem : (given : List ℕ) (k at : ℕ) → all_ids (list_by k (given_at given) at) ≡ true
all_ids_lem given zero at = refl
all_ids_lem given (suc k) at = rw (given_ids given at, all_ids_lem given k (suc at))

-- ---- The words that `kg_new` writes, and any calls after them.
abbrev pub new_words : (given : List ℕ) → List ℕ
new_words given = node_words (new_of (node_given given)).node

pub given_node_fits : (given : List ℕ) → NodeFits (new_of (node_given given)).node
given_node_fits given = new_fits (node_given given) (omega arith) refl (all_fit given)

pub run_answers :
    (given : List ℕ) (cs : List Call) → AreCalls cs →
    answers_on (new_words given) cs ≡ answers_to (new_of (node_given given)).node cs
run_answers given cs are =
    let n = (new_of (node_given given)).node in
    let f = given_node_fits given in
    same_answers (new_words given) (node_size_lem n f.sixteen) cs are
    ∙ ap (λ (m : Node). answers_to m cs) (node_back n f)

pub run_words :
    (given : List ℕ) (cs : List Call) → AreCalls cs →
    words_after_all (new_words given) cs ≡ node_words (node_after_all (new_of (node_given given)).node cs)
run_words given cs are = of_node_all _ (given_node_fits given) cs are

reachable_after : (n : Node) → Reachable n → (cs : List Call) → AreCalls cs → Reachable (node_after_all n cs)
reachable_after n r [] are = r
reachable_after n r (c ∷ rest) are = reachable_after (node_after n c) (after n r c are.0) rest are.1

pub run_reachable :
    (given : List ℕ) (cs : List Call) → AreCalls cs → Reachable (node_after_all (new_of (node_given given)).node cs)
run_reachable given cs are =
    reachable_after _ (new (node_given given) (all_ids_lem given places 0)) cs are
