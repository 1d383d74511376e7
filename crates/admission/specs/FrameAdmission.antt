-- Paper 01, "Refusal numbers": a frame, 1 to 4, "in the order of the numbers". Assumes nothing.
use Rattle.std.specs.Prelude.{ℕ, cond, List, Err, Ok, Result}
use Rattle.clock.specs.declared.reading.VirtualLocalTime.{VirtualLocalTime}
use Rattle.frame.specs.declared.values.Frame.{Frame}
use Rattle.frame.specs.Values.{domain_in}
use Rattle.frame_read.specs.Read.{read_of}
use Rattle.refusal.specs.declared.Refusal.TheVariants.{Reading, Length, FrameType, Domain}
use Rattle.settings.specs.declared.domain_settings.Role.{Role}
use Rattle.admission.specs.declared.Needed.TheVariants.{Slave as slave}
use Rattle.admission.specs.Reading.{is_good_reading}
use Rattle.admission.specs.Admission.{is_for}
use Rattle.frame_read.specs.declared.NoFrame.{NoFrame}
use Rattle.frame_read.specs.declared.NoFrame.TheVariants.{LengthNot8, NoSuchType}
use Rattle.refusal.specs.Numbers.{Outcome}

-- ---- frame: 1, 2, 3, 4
abbrev pub values_for : (own : ℕ) → Role → Frame → Outcome Frame
values_for own role values = cond (is_for own role (domain_in values) slave) (Ok values) (Err Domain)

abbrev pub read_for : Result Frame NoFrame → (own : ℕ) → Role → Outcome Frame
read_for (Err LengthNot8) own role = Err Length
read_for (Err NoSuchType) own role = Err FrameType
read_for (Ok values) own role = values_for own role values

abbrev pub frame_admitted : (kept t : VirtualLocalTime) (own : ℕ) → Role → List ℕ → Outcome Frame
frame_admitted kept t own role bytes =
    cond (is_good_reading kept t) (read_for (read_of bytes) own role) (Err Reading)
