-- Laws of text that is written to `Out`. Assumes nothing.
use Prim.Native.Nat.{ℕ}
use mathlib.Core.Path.{◌≡◌, refl, sym, ap, subst, ◌∙◌}
use mathlib.Core.List.{List, [], ◌++◌}
use Rattle.text.specs.declared.Out.{Out}
use Rattle.text.specs.Text.{puts, Wrote}
use Rattle.text.proofs.Laws as laws

-- ---- One text after another.
pub then :
    {xs ys : List ℕ} {before middle after : Out} →
    Wrote xs before middle → Wrote ys middle after → Wrote (xs ++ ys) before after
then e f = record { same_buffer = f.same_buffer ∙ e.same_buffer; text = laws.then e.text f.text }

-- the same, where the text is known by another name
pub named : {xs ys : List ℕ} {before after : Out} → xs ≡ ys → Wrote xs before after → Wrote ys before after
named {before} {after} e f = subst (λ zs. Wrote zs before after) e f

-- nothing to write
pub nothing : {before : Out} → Wrote [] before before
nothing = record { same_buffer = refl; text = laws.nothing }

-- ---- A loop: what is left to write, written from the place on, makes the whole.
pub record Left (left : List ℕ) (out : Out) (xs : List ℕ) (before : Out) : Type 0 where
  pub same_buffer : out.bytes.ghost_name ≡ before.bytes.ghost_name
  pub makes : puts left (record { at = out.at; bytes = out.bytes.now }) ≡ puts xs (record { at = before.at; bytes = before.bytes.now })

pub begun : {xs : List ℕ} {before : Out} → Left xs before xs before
begun = record { same_buffer = refl; makes = refl }

pub turn :
    {xs rest left whole : List ℕ} {before out after : Out} →
    left ≡ xs ++ rest → Wrote xs out after → Left left out whole before → Left rest after whole before
turn {xs} {rest} {whole} {before} {out} e f g =
    record {
      same_buffer = f.same_buffer ∙ g.same_buffer;
      makes =
          ap (puts rest) f.text.text
          ∙ sym (laws.puts_append xs rest _)
          ∙ (subst (λ ys. Left ys out whole before) e g).makes;
    }

pub ended : {left whole : List ℕ} {before out : Out} → left ≡ [] → Left left out whole before → Wrote whole before out
unfolding puts
ended {whole} {before} {out} e g =
    record {
      same_buffer = g.same_buffer;
      text = record { text = (subst (λ ys. Left ys out whole before) e g).makes };
    }
