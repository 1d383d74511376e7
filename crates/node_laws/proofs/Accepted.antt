-- Demand 2 for a node: "an accepted frame with a right check byte, if it has one, and zero reserved bits is written
-- back from its values byte for byte". No contract cites this file.
--   accepted_back   a frame whose number is 0 reads as values, which are so written back; on every node
-- Assumes nothing.
use Rattle.std.specs.Prelude.{Err, None, Ok, Option, Some}
use Prim.Native.Nat.{ℕ}
use mathlib.Core.Path.{◌≡◌, refl, sym, ap, ◌∙◌}
use mathlib.Core.Bool.{Bool, true, false, not, cond}
use mathlib.Core.List.{List}
use native.Mathlib.Omega.{arith}
use lib.Dec.{eqb}
use lib.ListN.{length, get_or}
use Rattle.clock.specs.declared.reading.VirtualLocalTime.{VirtualLocalTime}
use Rattle.frame.specs.declared.data_ids.DataIds.{DataIds}
use Rattle.frame.specs.declared.values.Frame.{Frame}
use Rattle.frame.specs.Types.{type_of}
use Rattle.frame_read.specs.Read.{read_of, values_of}
use Rattle.frame_laws.specs.RoundTrip.{AreBytes}
use Rattle.frame_laws.proofs.Laws.{write_back}
use Rattle.admission.specs.Reading.{is_good_reading}
use Rattle.domain.specs.Records.{record_at}
use Rattle.node.specs.declared.Node.{Node}
use Rattle.node.specs.Frame.{addressed_by}
use Rattle.node_laws.specs.Tests.{no_type}
use Rattle.node_laws.specs.Back.{FrameBack, AcceptedBack}
use Rattle.node_laws.proofs.Order.{frame_order}
use Rattle.frame.specs.declared.types.FrameType.{FrameType}
use Rattle.frame.specs.declared.types.FrameType.TheVariants.{PlainFup, PlainSync, SecuredFup, SecuredSync}
use Rattle.frame_read.specs.declared.NoFrame.TheVariants.{LengthNot8}

-- ---- where the first number is 0 a test with another number does not hold, and the later ones are asked

passed :
    (b : Bool) {k later : ℕ} → (k ≡ 0 → ⊥) → cond b k later ≡ 0 → (b ≡ false) × (later ≡ 0)
passed true other e = absurd (other e)
passed false other e = (refl, e)

told : (b : Bool) → not b ≡ false → b ≡ true
told true e = refl
told false e = sym e

-- ---- 8 bytes of one of the four types read as values

module _ (ids : DataIds) (bytes : List ℕ) (are : AreBytes bytes) where
  reads : (f : Frame) → read_of bytes ≡ Ok f → FrameBack ids bytes
  reads f e = record { values = f; read = e; back = write_back ids f bytes are e }

  typed :
      (type : Option FrameType) → no_type type ≡ false → read_of bytes ≡ values_of type bytes → FrameBack ids bytes
  typed (Some PlainSync) one e = reads _ e
  typed (Some SecuredSync) one e = reads _ e
  typed (Some PlainFup) one e = reads _ e
  typed (Some SecuredFup) one e = reads _ e
  typed None one e = let no : ◌≡◌ {A = ℕ} 0 1 = cc in absurd (omega arith)

pub accepted_back : (n : Node) (t : VirtualLocalTime) (bytes : List ℕ) → AcceptedBack n t bytes
accepted_back n t bytes are e =
    let type = type_of (get_or bytes 0 0) in
    let one = passed (not (is_good_reading n.kept t)) (λ z. omega arith) (sym (frame_order n t bytes) ∙ e) in
    let two = passed (not (eqb (length bytes) 8)) (λ z. omega arith) one.1 in
    let three = passed (no_type type) (λ z. omega arith) two.1 in
    typed (record_at n.domains (addressed_by bytes)).settings.ids bytes are type three.0
    (ap (λ (b : Bool). cond b (values_of type bytes) (Err LengthNot8)) (told (eqb (length bytes) 8) two.0))
