-- The texts that the hub takes: participants' codes as BICs of 8 or 11 characters (ISO 9362),
-- identifiers of at most 35 characters of the scheme's basic Latin set (EPC004-16, chapter 4:
-- attributes), and reasons of four characters.
use Rattle.std.specs.Prelude.{ℕ, Bool, ◌&&◌, ◌||◌, ◌==◌, nat_le, if◌then◌else◌, List, length}
use Rattle.std.specs.Prelude.{Result, Ok, Err, codes}
use Rattle.std.specs.List.{list_all, list_any}
use Rattle.inst_base.specs.declared.code.TheConstants.{CODE_LENGTH, BRANCH_CODE_LENGTH}
use Rattle.inst_base.specs.declared.ident.TheConstants.{MOST_IDENTIFIER_LENGTH}
use Rattle.inst_base.specs.declared.reason.TheConstants.{REASON_LENGTH}
use Rattle.inst_base.specs.declared.fault.Fault.{Fault}
use Rattle.inst_base.specs.declared.fault.Fault.TheVariants.{BadField, BadIdentifier}

-- `0-9`
abbrev pub is_digit : ℕ → Bool
is_digit c = nat_le 48 c && nat_le c 57

-- `A-Z`
abbrev pub is_capital : ℕ → Bool
is_capital c = nat_le 65 c && nat_le c 90

-- `a-z`
abbrev pub is_small : ℕ → Bool
is_small c = nat_le 97 c && nat_le c 122

-- `A-Z 0-9`
abbrev pub is_code_character : ℕ → Bool
is_code_character c = is_capital c || is_digit c

-- the basic Latin set: `a-z A-Z 0-9 / - ? : ( ) . , ' +` and space
abbrev pub is_latin : ℕ → Bool
is_latin c =
    is_small c || is_capital c || is_digit c || list_any (λ mark. c == mark) (codes "/-?:().,'+ ")

-- True if the text is a participant's code.
abbrev pub is_code : List ℕ → Bool
is_code text =
    (length text == CODE_LENGTH || length text == BRANCH_CODE_LENGTH)
    && list_all is_code_character text

-- True if the text is an identifier or a funding reference: 1 to 35 characters, in any arrangement.
abbrev pub is_identifier : List ℕ → Bool
is_identifier text =
    nat_le 1 (length text) && nat_le (length text) MOST_IDENTIFIER_LENGTH && list_all is_latin text

-- True if the text is a reason of a rejection: four characters, passed on unread.
abbrev pub is_reason : List ℕ → Bool
is_reason text = length text == REASON_LENGTH && list_all is_code_character text

-- The code of a text, or `BadField`.
abbrev pub code_of : List ℕ → Result (List ℕ) Fault
code_of text = if is_code text then Ok text else Err BadField

-- The identifier of a text, or `BadIdentifier`.
abbrev pub identifier_of : List ℕ → Result (List ℕ) Fault
identifier_of text = if is_identifier text then Ok text else Err BadIdentifier

-- The reason of a text, or `BadField`.
abbrev pub reason_of : List ℕ → Result (List ℕ) Fault
reason_of text = if is_reason text then Ok text else Err BadField
