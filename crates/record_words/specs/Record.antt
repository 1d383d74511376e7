-- A record in words: eleven with its settings and its number, eleven with its state. Assumes nothing.
use Rattle.std.specs.Prelude.{ℕ, List, [], ◌∷◌, get_or, eqb}
use Rattle.settings.specs.declared.domain_settings.DomainSettings.{DomainSettings}
use Rattle.domain.specs.declared.Domain.{Domain}
use Rattle.record_words.specs.Packed.{
  low_of,
  byte0,
  byte1,
  byte4,
  byte5,
  byte6,
  byte7,
  packed_of,
  half_of,
  word_of,
  sixteen_of,
}
use Rattle.record_words.specs.Parts.{
  role_of,
  role_code,
  mode_of,
  mode_code,
  security_of,
  security_code,
  flag_code,
  leap_of,
  leap_words,
  held_of,
  held_words,
  pairing_of,
  pairing_words,
  last_of,
  last_words,
  sending_of,
  sending_words,
}

-- ---- What words say.
abbrev pub settings_of : List ℕ → DomainSettings
settings_of words =
    record {
      follow_up_time = get_or words 0 0;
      loss_time = get_or words 1 0;
      future_threshold = get_or words 2 0;
      past_threshold = get_or words 3 0;
      period = get_or words 4 0;
      confirmation_time = low_of (get_or words 5 0);
      ids =
          record {
            sync = sixteen_of (get_or words 7 0) (get_or words 8 0);
            fup = sixteen_of (get_or words 9 0) (get_or words 10 0);
          };
      role = role_of (get_or words 5 0);
      mode = mode_of (get_or words 5 0);
      jump_width = byte6 (get_or words 5 0);
      hysteresis = byte0 (get_or words 6 0);
      clear_count = byte1 (get_or words 6 0);
      security = security_of (get_or words 6 0);
      user = record { 0 = byte4 (get_or words 6 0); 1 = byte5 (get_or words 6 0); 2 = byte6 (get_or words 6 0) };
    }

abbrev pub number_of : List ℕ → ℕ
number_of words = byte7 (get_or words 5 0)

abbrev pub domain_of : DomainSettings → (number : ℕ) → List ℕ → Domain
domain_of settings number words =
    record {
      settings = settings;
      base = held_of (get_or words 4 0) (get_or words 5 0) (get_or words 6 0);
      pairing = pairing_of (get_or words 0 0) (get_or words 1 0);
      last = last_of (get_or words 2 0) (get_or words 3 0);
      sending = sending_of (get_or words 8 0) (get_or words 9 0) (get_or words 10 0);
      number = number;
      user = record { 0 = byte4 (get_or words 7 0); 1 = byte5 (get_or words 7 0); 2 = byte6 (get_or words 7 0) };
      sgw = eqb (byte7 (get_or words 7 0)) 1;
      leap = leap_of (get_or words 6 0);
      updates = byte5 (get_or words 6 0);
      next_counter = byte6 (get_or words 9 0);
    }

-- ---- The words of a record.
abbrev pub kinds_of : DomainSettings → (number : ℕ) → ℕ
kinds_of s number =
    packed_of s.confirmation_time (role_code s.role) (mode_code s.mode) s.jump_width number

abbrev pub sent_of : DomainSettings → ℕ
sent_of s =
    packed_of (half_of s.hysteresis s.clear_count 0 0) s.user.0 s.user.1 s.user.2
    (security_code s.security)

abbrev pub settings_words : DomainSettings → (number : ℕ) → List ℕ
settings_words s number =
    s.follow_up_time
    ∷ s.loss_time
    ∷ s.future_threshold
    ∷ s.past_threshold
    ∷ s.period
    ∷ kinds_of s number
    ∷ sent_of s
    ∷ word_of 0 s.ids.sync
    ∷ word_of 8 s.ids.sync
    ∷ word_of 0 s.ids.fup
    ∷ word_of 8 s.ids.fup
    ∷ []

abbrev pub state_words : Domain → List ℕ
state_words d =
    (pairing_words d.pairing).at
    ∷ (pairing_words d.pairing).word
    ∷ (last_words d.last).at
    ∷ (last_words d.last).word
    ∷ (held_words d.base).seconds
    ∷ (held_words d.base).at
    ∷ packed_of (held_words d.base).nanoseconds (held_words d.base).code d.updates
    (leap_words d.leap).code (leap_words d.leap).run
    ∷ packed_of 0 d.user.0 d.user.1 d.user.2 (flag_code d.sgw)
    ∷ (sending_words d.sending).at
    ∷ packed_of (sending_words d.sending).seconds (sending_words d.sending).counter
    (sending_words d.sending).code d.next_counter 0
    ∷ (sending_words d.sending).nanoseconds
    ∷ []
