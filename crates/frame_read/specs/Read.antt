-- Paper 01, "Frames": the values that bytes carry. Assumes nothing.
use Rattle.std.specs.Prelude.{ℕ, ◌+◌, ◌*◌, ◌/◌, ◌%◌, cond, List, eqb, length, get_or, Err, None, Ok, Option, Result, Some}
use Rattle.frame.specs.declared.values.Protection.{Protection}
use Rattle.frame.specs.declared.values.Protection.TheVariants.{Plain, Secured}
use Rattle.frame.specs.declared.values.Frame.TheVariants.{Sync as sync, Fup as fup}
use Rattle.frame.specs.declared.values.Sync.{Sync}
use Rattle.frame.specs.declared.values.Fup.{Fup}
use Rattle.frame.specs.Types.{type_of}
use Rattle.frame.specs.ByteTwo.{domain_of, counter_of}
use Rattle.frame.specs.declared.types.FrameType.{FrameType}
use Rattle.frame.specs.declared.types.FrameType.TheVariants.{PlainFup, PlainSync, SecuredFup, SecuredSync}
use Rattle.frame.specs.declared.values.Frame.{Frame}
use Rattle.frame_read.specs.declared.NoFrame.{NoFrame}
use Rattle.frame_read.specs.declared.NoFrame.TheVariants.{LengthNot8, NoSuchType}
use Rattle.refusal.specs.declared.Refusal.{Refusal}
use Rattle.refusal.specs.declared.Refusal.TheVariants.{Length, FrameType as no_type}

abbrev byte : List ℕ → ℕ → ℕ
byte bytes i = get_or bytes i 0

-- ---- "domain in bits 7-4" of byte 2: the one place where a frame's domain is read
abbrev pub named_domain : List ℕ → ℕ
named_domain bytes = domain_of (byte bytes 2)

-- ---- "byte order big-endian": bytes 4 to 7
abbrev pub word_of : List ℕ → ℕ
word_of bytes = ((byte bytes 4 * 256 + byte bytes 5) * 256 + byte bytes 6) * 256 + byte bytes 7

-- ---- SYNC: byte 3 "user byte 0", bytes 4-7 "seconds"
abbrev pub sync_in : List ℕ → Protection → Sync
sync_in bytes p =
    record {
      domain = named_domain bytes;
      counter = counter_of (byte bytes 2);
      user0 = byte bytes 3;
      seconds = word_of bytes;
      protection = p;
    }

-- ---- FUP: byte 3 "bits 7-3 reserved, bit 2 SGW, bits 1-0 OVS", bytes 4-7 "nanoseconds"
abbrev pub fup_in : List ℕ → Protection → Fup
fup_in bytes p =
    record {
      domain = named_domain bytes;
      counter = counter_of (byte bytes 2);
      sgw = eqb (byte bytes 3 / 4 % 2) 1;
      ovs = byte bytes 3 % 4;
      nanoseconds = word_of bytes;
      protection = p;
    }

-- ---- byte 1 "user byte 1 / check byte", "user byte 2 / check byte"
abbrev pub values_of : Option FrameType → List ℕ → Result Frame NoFrame
values_of (Some PlainSync) bytes = Ok (sync (sync_in bytes (Plain (byte bytes 1))))
values_of (Some SecuredSync) bytes = Ok (sync (sync_in bytes Secured))
values_of (Some PlainFup) bytes = Ok (fup (fup_in bytes (Plain (byte bytes 1))))
values_of (Some SecuredFup) bytes = Ok (fup (fup_in bytes Secured))
values_of None bytes = Err NoSuchType

-- ---- 2 and 3
abbrev pub refusal_of : NoFrame → Refusal
refusal_of LengthNot8 = Length
refusal_of NoSuchType = no_type

-- ---- "frame length not 8", "byte 0 none of the four types"
abbrev pub read_of : List ℕ → Result Frame NoFrame
read_of bytes = cond (eqb (length bytes) 8) (values_of (type_of (byte bytes 0)) bytes) (Err LengthNot8)
