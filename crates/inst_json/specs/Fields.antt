-- The value of a field, or BadField if it isn't of the form wanted. The forms are a choice of this
-- hub.
use Rattle.std.specs.Prelude.{ℕ, nat_lt, List, Bool, true, false, Result, Ok, Err, if◌then◌else◌}
use Rattle.inst_base.specs.Text.{code_of, reason_of}
use Rattle.inst_base.specs.declared.fault.Fault.{Fault}
use Rattle.inst_base.specs.declared.fault.Fault.TheVariants.{BadField}
use Rattle.inst_settings.specs.declared.ranges.TheConstants.{MOST_PLACES}
use Rattle.inst_command.specs.Ask.{is_count}
use Rattle.inst_json.specs.LineFields.{FoundValue, missing, text, whole, other}
use Rattle.inst_json.specs.Refusals.{◌>>=◌}

-- A text.
abbrev pub text_in : FoundValue → Result (List ℕ) Fault
text_in missing = Err BadField
text_in (text s) = Ok s
text_in (whole n) = Err BadField
text_in other = Err BadField

-- A whole number of 64 bits.
abbrev pub whole_in : FoundValue → Result ℕ Fault
whole_in missing = Err BadField
whole_in (text s) = Err BadField
whole_in (whole n) = Ok n
whole_in other = Err BadField

-- True if the field is present.
abbrev pub is_there : FoundValue → Bool
is_there missing = false
is_there (text s) = true
is_there (whole n) = true
is_there other = true

-- The code of a participant.
unfoldable pub code_in : FoundValue → Result (List ℕ) Fault
code_in field = text_in field >>= code_of

-- The reason of a rejection.
unfoldable pub reason_in : FoundValue → Result (List ℕ) Fault
reason_in field = text_in field >>= reason_of

-- The number of entries or lines asked for, 1 to 100.
unfoldable pub count_in : FoundValue → Result ℕ Fault
count_in field = do
  count ← whole_in field
  if is_count count then Ok count else Err BadField

-- A place that some hub may have, 0 to 1,023.
unfoldable pub place_in : FoundValue → Result ℕ Fault
place_in field = do
  place ← whole_in field
  if nat_lt place MOST_PLACES then Ok place else Err BadField
