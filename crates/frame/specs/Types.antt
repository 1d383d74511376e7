-- Paper 01, "Frames": byte 0. Assumes nothing.
use Rattle.std.specs.Prelude.{ℕ, cond, eqb, None, Option, Some}
use Rattle.frame.specs.declared.types.FrameType.{FrameType}
use Rattle.frame.specs.declared.types.FrameType.TheVariants.{PlainFup, PlainSync, SecuredFup, SecuredSync}

-- ---- "0x10 / 0x20", "0x18 / 0x28"
abbrev pub type_of : ℕ → Option FrameType
type_of byte =
    cond (eqb byte 0x10) (Some PlainSync)
    (cond (eqb byte 0x20) (Some SecuredSync)
    (cond (eqb byte 0x18) (Some PlainFup)
    (cond (eqb byte 0x28) (Some SecuredFup) None)))
