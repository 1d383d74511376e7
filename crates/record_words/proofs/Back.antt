-- What the words of a record say is the record. No contract cites this file.
--   pairing_back .. sending_back   a part's words, with room for the bytes beside them
--   frame_back                     the first eight words of a state
--   state_back                     all of them
--   base_back, sent_back           those of a base, and those of what was sent, in other words of a state
--   words_fit, settings_fit        any words say a record whose numbers fit
--   ids_back, settings_back        sixteen bytes, and the settings
--   number_back                    the number beside them
-- Assumes nothing.
use Rattle.std.specs.Prelude.{None, Option, Some}
use Prim.Native.Nat.{ℕ, zero, suc, ◌%◌, ◌<◌}
use mathlib.Core.Path.{◌≡◌, refl}
use mathlib.Core.Bool.{Bool, true, false}
use mathlib.Core.List.{List, [], ◌∷◌, ◌++◌}
use native.Mathlib.Omega.{arith}
use borrow.Author.Rules.{rules}
use lib.Dec.{eqb}
use lib.ListN.{length, get_or, take, drop}
use Rattle.promise.proofs.Tests.{either}
use Rattle.frame_check.specs.declared.CheckMode.{CheckMode}
use Rattle.frame_check.specs.declared.CheckMode.TheVariants.{Validated, NotValidated, Ignored, Optional}
use Rattle.settings.specs.declared.domain_settings.DomainSettings.{DomainSettings}
use Rattle.settings.specs.declared.domain_settings.Role.{Role}
use Rattle.settings.specs.declared.domain_settings.Role.TheVariants.{Absent, Slave, Master}
use Rattle.settings.specs.declared.domain_settings.Security.{Security}
use Rattle.settings.specs.declared.domain_settings.Security.TheVariants.{Plain, Secured}
use Rattle.domain.specs.declared.Domain.{Domain}
use Rattle.domain.specs.declared.LastSync.{LastSync}
use Rattle.domain.specs.declared.LastSync.TheVariants.{Unknown, Seen}
use Rattle.domain.specs.declared.Sending.{Sending}
use Rattle.domain.specs.declared.Sending.TheVariants.{Never, Open as sent, Confirmed}
use Rattle.record_words.specs.Packed.{
  byte4,
  byte5,
  byte6,
  byte7,
  packed_of,
  half_of,
  word_of,
  eight_of,
  sixteen_of,
}
use Rattle.record_words.specs.Parts.{
  role_of,
  role_code,
  mode_of,
  mode_code,
  security_of,
  security_code,
  flag_code,
  leap_of,
  leap_words,
  held_of,
  held_words,
  pairing_of,
  pairing_words,
  last_of,
  last_words,
  sending_of,
  sending_words,
}
use Rattle.record_words.specs.Record.{settings_of, number_of, domain_of, settings_words, state_words}
use Rattle.record_words.specs.Fits.{
  PairingFits,
  LastFits,
  HeldFits,
  LeapFits,
  SendingFits,
  IdsFit,
  SettingsFit,
  StateFits,
}
use Rattle.record_words.proofs.Runs.{run_all}
use Rattle.record_words.proofs.Unpacked.{unpacked, byte0_back, byte1_back, eight_back}
use Rattle.clock.specs.declared.base.TimeBase.{TimeBase}
use Rattle.domain.specs.declared.Leap.{Leap}
use Rattle.domain.specs.declared.Leap.TheVariants.{Future, Past}
use Rattle.domain.specs.declared.Pair.{Pair}

pub pairing_back : (p : Option Pair) → PairingFits p → pairing_of (pairing_words p).at (pairing_words p).word ≡ p
pairing_back None f = refl
pairing_back (Some p) f =
    let u = unpacked p.seconds p.counter p.user0 p.user1 1 f.0 f.1 f.2 f.3 (omega arith) in
    rw (u.seven, u.half, u.four, u.five, u.six)

pub last_back : (l : LastSync) → LastFits l → last_of (last_words l).at (last_words l).word ≡ l
last_back Unknown f = refl
last_back (Seen counter row at) f =
    let u = unpacked 0 counter row 1 0 (omega arith) f.0 f.1 (omega arith) (omega arith) in
    rw (u.six, u.four, u.five)

-- ---- a base's word has room for three bytes more
pub held_small : (h : Option TimeBase) → HeldFits h → ((held_words h).nanoseconds < 4294967296) × ((held_words h).code < 256)
held_small None f = (omega arith, omega arith)
held_small (Some base) f = (f, omega arith)

pub held_back :
    (h : Option TimeBase) (b c d : ℕ) → HeldFits h → b < 256 → c < 256 → d < 256 →
    held_of (held_words h).seconds (held_words h).at (packed_of (held_words h).nanoseconds (held_words h).code b c d)
    ≡ h
held_back None b c d f hb hc hd = rw (unpacked 0 0 b c d (omega arith) (omega arith) hb hc hd).four
held_back (Some base) b c d f hb hc hd =
    let u = unpacked base.time.1 1 b c d f (omega arith) hb hc hd in
    rw (u.four, u.half)

-- ---- a leap's for a half and two bytes
pub leap_small : (l : Option Leap) → LeapFits l → ((leap_words l).code < 256) × ((leap_words l).run < 256)
leap_small None f = (omega arith, omega arith)
leap_small (Some (Future run)) f = (omega arith, f)
leap_small (Some (Past run)) f = (omega arith, f)

pub leap_back :
    (l : Option Leap) (low a b : ℕ) → LeapFits l → low < 4294967296 → a < 256 → b < 256 →
    leap_of (packed_of low a b (leap_words l).code (leap_words l).run) ≡ l
leap_back None low a b f hl ha hb = rw (unpacked low a b 0 0 hl ha hb (omega arith) (omega arith)).six
leap_back (Some (Future run)) low a b f hl ha hb =
    let u = unpacked low a b 1 run hl ha hb (omega arith) f in
    rw (u.six, u.seven)
leap_back (Some (Past run)) low a b f hl ha hb =
    let u = unpacked low a b 2 run hl ha hb (omega arith) f in
    rw (u.six, u.seven)

-- ---- that of what was sent for two bytes
pub sending_small :
    (s : Sending) → SendingFits s →
    ((sending_words s).seconds < 4294967296) × ((sending_words s).counter < 256) × ((sending_words s).code < 256)
sending_small Never f = (omega arith, omega arith, omega arith)
sending_small (sent counter seconds nanoseconds at) f = (f.1, f.0, omega arith)
sending_small (Confirmed at) f = (omega arith, omega arith, omega arith)

pub sending_back :
    (s : Sending) (c d : ℕ) → SendingFits s → c < 256 → d < 256 →
    sending_of (sending_words s).at
    (packed_of (sending_words s).seconds (sending_words s).counter (sending_words s).code c d)
    (sending_words s).nanoseconds
    ≡ s
sending_back Never c d f hc hd = rw (unpacked 0 0 0 c d (omega arith) (omega arith) (omega arith) hc hd).five
sending_back (sent counter seconds nanoseconds at) c d f hc hd =
    let same : nanoseconds % 4294967296 ≡ nanoseconds = omega arith in
    let u = unpacked seconds counter 1 c d f.1 f.0 (omega arith) hc hd in
    rw (u.five, u.four, u.half, same)
sending_back (Confirmed at) c d f hc hd = rw (unpacked 0 0 2 c d (omega arith) (omega arith) (omega arith) hc hd).five

-- ---- codes, in words that say them
flag_small : (f : Bool) → flag_code f < 256
flag_small true = omega arith
flag_small false = omega arith

flag_back : (f : Bool) (word : ℕ) → byte7 word ≡ flag_code f → eqb (byte7 word) 1 ≡ f
flag_back true word e = rw e
flag_back false word e = rw e

role_small : (r : Role) → role_code r < 256
role_small Absent = omega arith
role_small Slave = omega arith
role_small Master = omega arith

role_back : (r : Role) (word : ℕ) → byte4 word ≡ role_code r → role_of word ≡ r
role_back Absent word e = rw e
role_back Slave word e = rw e
role_back Master word e = rw e

mode_small : (m : CheckMode) → mode_code m < 256
mode_small Validated = omega arith
mode_small NotValidated = omega arith
mode_small Ignored = omega arith
mode_small Optional = omega arith

mode_back : (m : CheckMode) (word : ℕ) → byte5 word ≡ mode_code m → mode_of word ≡ m
mode_back Validated word e = rw e
mode_back NotValidated word e = rw e
mode_back Ignored word e = rw e
mode_back Optional word e = rw e

security_small : (s : Security) → security_code s < 256
security_small Plain = omega arith
security_small Secured = omega arith

security_back : (s : Security) (word : ℕ) → byte7 word ≡ security_code s → security_of word ≡ s
security_back Plain word e = rw e
security_back Secured word e = rw e

-- ---- words 4, 5 and 6 of a state, and words 8, 9 and 10
record BaseBack (d : Domain) (seconds at word : ℕ) : Type 0 where
  base : held_of seconds at word ≡ d.base
  leap : leap_of word ≡ d.leap
  updates : byte5 word ≡ d.updates

base_words :
    (d : Domain) → StateFits d →
    BaseBack d (get_or (state_words d) 4 0) (get_or (state_words d) 5 0) (get_or (state_words d) 6 0)
base_words d f =
    let h = held_small d.base f.base in
    let l = leap_small d.leap f.leap in
    record {
      base = held_back d.base _ _ _ f.base f.updates l.0 l.1;
      leap = leap_back d.leap _ _ _ f.leap h.0 h.1 f.updates;
      updates = (unpacked _ _ _ _ _ h.0 h.1 f.updates l.0 l.1).five;
    }

record SentBack (d : Domain) (at word nanoseconds : ℕ) : Type 0 where
  sending : sending_of at word nanoseconds ≡ d.sending
  next : byte6 word ≡ d.next_counter

sent_words :
    (d : Domain) → StateFits d →
    SentBack d (get_or (state_words d) 8 0) (get_or (state_words d) 9 0) (get_or (state_words d) 10 0)
sent_words d f =
    let s = sending_small d.sending f.sending in
    record {
      sending = sending_back d.sending _ 0 f.sending f.next (omega arith);
      next = (unpacked _ _ _ _ 0 s.0 s.1 s.2 f.next (omega arith)).six;
    }

-- ---- the first eight words of a state, before any three that say what was sent and the next counter
pub frame_back :
    (d : Domain) (rest : List ℕ) → StateFits d →
    sending_of (get_or rest 0 0) (get_or rest 1 0) (get_or rest 2 0) ≡ d.sending →
    byte6 (get_or rest 1 0) ≡ d.next_counter →
    domain_of d.settings d.number (take 8 (state_words d) ++ rest) ≡ d
frame_back d rest f sending-is next-is =
    let b = base_words d f in
    let u = unpacked 0 _ _ _ _ (omega arith) f.user.0 f.user.1 f.user.2 (flag_small d.sgw) in
    rw (
      b.base,
      b.leap,
      b.updates,
      pairing_back d.pairing f.pairing,
      last_back d.last f.last,
      sending-is,
      u.four,
      u.five,
      u.six,
      flag_back d.sgw _ u.seven,
      next-is,
    )

pub state_back : (d : Domain) → StateFits d → domain_of d.settings d.number (state_words d) ≡ d
state_back d f =
    let s = sent_words d f in
    frame_back d (drop 8 (state_words d)) f s.sending s.next

-- ---- words 4, 5 and 6 among others that say the rest
pub record BesideBase (d e : Domain) : Type 0 where
  pub pairing : d.pairing ≡ e.pairing
  pub last : d.last ≡ e.last
  pub sending : d.sending ≡ e.sending
  pub user : d.user ≡ e.user
  pub sgw : d.sgw ≡ e.sgw
  pub next : d.next_counter ≡ e.next_counter

pub base_back :
    (d : Domain) (s : DomainSettings) (n : ℕ) (ws : List ℕ) → length ws ≡ 11 → StateFits d →
    BesideBase d (domain_of s n ws) →
    domain_of d.settings d.number (take 4 ws ++ (take 3 (drop 4 (state_words d)) ++ drop 7 ws)) ≡ d
base_back d s n ws e f h =
    let b = base_words d f in
    rw (
      ← run_all 11 ws e,
      b.base,
      b.leap,
      b.updates,
      ← h.pairing,
      ← h.last,
      ← h.sending,
      ← h.user,
      ← h.sgw,
      ← h.next,
    )

-- ---- words 8, 9 and 10
pub record BesideSent (d e : Domain) : Type 0 where
  pub pairing : d.pairing ≡ e.pairing
  pub last : d.last ≡ e.last
  pub base : d.base ≡ e.base
  pub leap : d.leap ≡ e.leap
  pub updates : d.updates ≡ e.updates
  pub user : d.user ≡ e.user
  pub sgw : d.sgw ≡ e.sgw

pub sent_back :
    (d : Domain) (s : DomainSettings) (n : ℕ) (ws : List ℕ) → length ws ≡ 11 → StateFits d →
    BesideSent d (domain_of s n ws) →
    domain_of d.settings d.number (take 8 ws ++ drop 8 (state_words d)) ≡ d
sent_back d s n ws e f h =
    let t = sent_words d f in
    rw (
      ← run_all 11 ws e,
      t.sending,
      t.next,
      ← h.pairing,
      ← h.last,
      ← h.base,
      ← h.leap,
      ← h.updates,
      ← h.user,
      ← h.sgw,
    )

-- ---- any words say a record whose numbers fit
pub words_fit : (s : DomainSettings) (number : ℕ) (words : List ℕ) → StateFits (domain_of s number words)
words_fit s number words =
    record {
      base = either HeldFits (eqb (byte4 (get_or words 6 0)) 1) (omega arith) tt;
      pairing =
          either PairingFits (eqb (byte7 (get_or words 1 0)) 1) (omega arith, omega arith, omega arith, omega arith) tt;
      last = either LastFits (eqb (byte6 (get_or words 3 0)) 1) (omega arith, omega arith) tt;
      leap =
          either LeapFits (eqb (byte6 (get_or words 6 0)) 1) (omega arith)
          (either LeapFits (eqb (byte6 (get_or words 6 0)) 2) (omega arith) tt);
      sending =
          either SendingFits (eqb (byte5 (get_or words 9 0)) 1) (omega arith, omega arith, omega arith)
          (either SendingFits (eqb (byte5 (get_or words 9 0)) 2) tt tt);
      user = (omega arith, omega arith, omega arith);
      updates = omega arith;
      next = omega arith;
    }

abbrev Bytes : List ℕ → Type 0
Bytes [] = Unit {0}
Bytes (x ∷ xs) = (x < 256) × Bytes xs

byte_at : (l : List ℕ) → Bytes l → (k : ℕ) → get_or l k 0 < 256
byte_at [] b k = omega arith
byte_at (x ∷ xs) b zero = b.0
byte_at (x ∷ xs) b (suc k) = byte_at xs b.1 k

ids_fit : (one two : ℕ) → IdsFit (sixteen_of one two)
ids_fit one two = record { sixteen = refl; bytes = byte_at (sixteen_of one two) (search rules) }

pub settings_fit : (words : List ℕ) → SettingsFit (settings_of words)
settings_fit words =
    record {
      confirmation = omega arith;
      jump = omega arith;
      hysteresis = omega arith;
      count = omega arith;
      user = (omega arith, omega arith, omega arith);
      sync = ids_fit _ _;
      fup = ids_fit _ _;
    }

-- ---- settings
pub ids_back : (l : List ℕ) → IdsFit l → sixteen_of (word_of 0 l) (word_of 8 l) ≡ l
ids_back l f =
    let b : (k : ℕ) → get_or l k 0 < 256 = f.bytes in
    rw (
      eight_back _ _ _ _ _ _ _ _ (b 0) (b 1) (b 2) (b 3) (eight_of (word_of 8 l) []) (b 4) (b 5) (b 6) (b 7),
      eight_back _ _ _ _ _ _ _ _ (b 8) (b 9) (b 10) (b 11) [] (b 12) (b 13) (b 14) (b 15),
    )
    (run_all 16 l f.sixteen)

pub settings_back :
    (s : DomainSettings) (number : ℕ) → SettingsFit s → number < 256 → settings_of (settings_words s number) ≡ s
settings_back s number f hn =
    let k = unpacked _ _ _ _ _ f.confirmation (role_small s.role) (mode_small s.mode) f.jump hn in
    let z : 0 < 256 = omega arith in
    let low : half_of s.hysteresis s.clear_count 0 0 < 4294967296 = omega arith in
    let t = unpacked _ _ _ _ _ low f.user.0 f.user.1 f.user.2 (security_small s.security) in
    rw (
      k.half,
      role_back s.role _ k.four,
      mode_back s.mode _ k.five,
      k.six,
      byte0_back _ _ _ _ _ _ _ _ f.hysteresis f.count z z,
      byte1_back _ _ _ _ _ _ _ _ f.hysteresis f.count z z,
      t.four,
      t.five,
      t.six,
      security_back s.security _ t.seven,
      ids_back s.ids.sync f.sync,
      ids_back s.ids.fup f.fup,
    )

pub number_back :
    (s : DomainSettings) (number : ℕ) → SettingsFit s → number < 256 → number_of (settings_words s number) ≡ number
number_back s number f hn =
    (unpacked _ _ _ _ _ f.confirmation (role_small s.role) (mode_small s.mode) f.jump hn).seven
