-- Laws of `read_of`. No contract cites this file.
--   read_names   the values that bytes carry are of the domain that byte 2 names
-- Assumes nothing.
use Rattle.std.specs.Prelude.{Err, None, Ok, Option, Result, Some}
use Prim.Native.Nat.{ℕ}
use mathlib.Core.Path.{◌≡◌, refl}
use mathlib.Core.List.{List}
use lib.Dec.{eqb}
use lib.ListN.{length, get_or}
use Rattle.promise.proofs.Tests.{either}
use Rattle.frame.specs.Types.{type_of}
use Rattle.frame.specs.Values.{domain_in}
use Rattle.frame_read.specs.Read.{named_domain, values_of, read_of}
use Rattle.frame.specs.declared.types.FrameType.{FrameType}
use Rattle.frame.specs.declared.types.FrameType.TheVariants.{PlainFup, PlainSync, SecuredFup, SecuredSync}
use Rattle.frame.specs.declared.values.Frame.{Frame}
use Rattle.frame_read.specs.declared.NoFrame.{NoFrame}
use Rattle.frame_read.specs.declared.NoFrame.TheVariants.{LengthNot8, NoSuchType}

abbrev pub Names : List ℕ → Result Frame NoFrame → Type 0
Names bytes (Err LengthNot8) = Unit {0}
Names bytes (Err NoSuchType) = Unit {0}
Names bytes (Ok values) = domain_in values ≡ named_domain bytes

values_name : (type : Option FrameType) (bytes : List ℕ) → Names bytes (values_of type bytes)
values_name (Some PlainSync) bytes = refl
values_name (Some SecuredSync) bytes = refl
values_name (Some PlainFup) bytes = refl
values_name (Some SecuredFup) bytes = refl
values_name None bytes = tt

pub read_names : (bytes : List ℕ) → Names bytes (read_of bytes)
read_names bytes = either (Names bytes) (eqb (length bytes) 8) (values_name (type_of (get_or bytes 0 0)) bytes) tt
