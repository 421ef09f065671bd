-- The options of a subcommand, and the settings that they choose. A choice of this hub.
use Rattle.std.specs.Prelude.{◌⊎◌, ◌≡◌, ◌<◌, ◌≤◌, ◌^◌, ◌||◌, ℕ, Bool, true, false}
use Rattle.std.specs.Prelude.{nat_lt, List, Option, Some, None, IfSome, is_some}
use Rattle.std.specs.Prelude.{unwrap_or, codes}
use Rattle.std.specs.Str.Parse.{IsNumeral, digits_value, without_leading_plus}
use Rattle.clap.specs.Words.{Row, Text, all_of, first_of, one_of}
use Rattle.inst_chain.specs.Chain.{is_digest}
use Rattle.inst_settings.specs.Parts.{parts_of}
use Rattle.inst_settings.specs.Settings.{HubSettings, same_text}

-- The task of a subcommand with a hub. `Drill`: the numbers of transfers in each opening and of
-- openings. `Check`: reports the lines that no such hub takes.
pub data Task : Type 0 where
  Run : Task
  Play : Task
  Drill : ℕ → ℕ → Task
  Check : Task

-- The option's text is this number in digits, which may follow a plus sign.
abbrev pub Gives : List Row → List ℕ → ℕ → Type 0
Gives rows name n =
    (text : Text) × (one_of name rows ≡ Some text) × IsNumeral 10 (without_leading_plus text)
    × (n ≡ digits_value 10 (without_leading_plus text))

-- The option has no text that is a number below this bound.
abbrev pub GivesNoneBelow : ℕ → List Row → List ℕ → Type 0
GivesNoneBelow bound rows name = (n : ℕ) → Gives rows name n → bound ≤ n

-- The option has a text.
abbrev pub IsGiven : List ℕ → List Row → Type 0
IsGiven name rows = (text : Text) × (first_of name rows ≡ Some text)

-- The text is the option's, if it has one.
abbrev pub IsText : List ℕ → List Row → List ℕ → Type 0
IsText name rows text = (given : List ℕ) → first_of name rows ≡ Some given → text ≡ given

-- The texts are the option's, if it has any.
abbrev pub AreTexts : List ℕ → List Row → List (List ℕ) → Type 0
AreTexts name rows texts = (given : List (List ℕ)) → all_of name rows ≡ Some given → texts ≡ given

-- The option without a value is given, or not.
abbrev pub IsFlag : List ℕ → List Row → Bool → Type 0
IsFlag name rows flag =
    (one_of name rows ≡ Some (codes "true") → flag ≡ true)
    × (((one_of name rows ≡ None) ⊎ (one_of name rows ≡ Some (codes "false"))) → flag ≡ false)

-- The subcommand has a hub: it isn't `log`, `next`, `audit` or `explain`.
abbrev pub HasAHub : List ℕ → Type 0
HasAHub name =
    (same_text name (codes "log") ≡ false) × (same_text name (codes "next") ≡ false)
    × (same_text name (codes "audit") ≡ false) × (same_text name (codes "explain") ≡ false)

-- An option is about a log: `told`, `digest` or `resume`.
abbrev pub DescribesALog : List Row → Type 0
DescribesALog rows =
    IsGiven (codes "told") rows
    ⊎ (IsGiven (codes "digest") rows ⊎ IsFlag (codes "resume") rows true)

-- The option gives this number, or no number of 64 bits.
abbrev pub GivesOrNot : List Row → List ℕ → Option ℕ → Type 0
GivesOrNot rows name None = GivesNoneBelow (2 ^ 64) rows name
GivesOrNot rows name (Some n) = Gives rows name n

-- The options give this digest, which is well-formed, or none.
abbrev pub GivesDigest : List Row → Option Text → Type 0
GivesDigest rows digest =
    (first_of (codes "digest") rows ≡ digest) × IfSome digest (λ text. is_digest text ≡ true)

-- The log must exist: this is asked for, or a digest is given, or a number of replies above 0.
abbrev pub must_resume : Bool → Option ℕ → Option Text → Bool
must_resume asked told digest = asked || is_some digest || nat_lt 0 (unwrap_or told 0)

-- The options say that the log must exist, or that it may be new.
abbrev pub GivesResume : List Row → Option ℕ → Option Text → Bool → Type 0
GivesResume rows told digest resume =
    (asked : Bool) × IsFlag (codes "resume") rows asked × (resume ≡ must_resume asked told digest)

-- The options name this log, this number of replies, whether it must exist, and this digest.
abbrev pub NamesTheLog : List Row → List ℕ → Option ℕ → Bool → Option Text → Type 0
NamesTheLog rows path told resume digest =
    (first_of (codes "log") rows ≡ Some path) × GivesOrNot rows (codes "told") told
    × GivesResume rows told digest resume × GivesDigest rows digest

-- The options name no log.
abbrev pub NamesNoLog : List Row → Type 0
NamesNoLog rows = first_of (codes "log") rows ≡ None

-- The text given as a digest isn't one.
abbrev pub GivesNoDigest : List Row → Type 0
GivesNoDigest rows =
    (text : Text) × (first_of (codes "digest") rows ≡ Some text) × (is_digest text ≡ false)

-- The digest is malformed, or an option is about a log and none is named.
abbrev pub AreOfNoLog : List Row → Type 0
AreOfNoLog rows = GivesNoDigest rows ⊎ (NamesNoLog rows × DescribesALog rows)

-- The options give the numbers of a drill.
abbrev pub IsDrill : List Row → ℕ → ℕ → Type 0
IsDrill rows transfers openings =
    Gives rows (codes "transfers") transfers × Gives rows (codes "openings") openings

-- The task of the subcommand of this name; any name but `play`, `drill` and `check` means `run`.
abbrev pub IsTask : List ℕ → List Row → Task → Type 0
IsTask name rows Run =
    (same_text name (codes "play") ≡ false) × (same_text name (codes "drill") ≡ false)
    × (same_text name (codes "check") ≡ false)
IsTask name rows Play = same_text name (codes "play") ≡ true
IsTask name rows (Drill transfers openings) =
    (same_text name (codes "play") ≡ false) × (same_text name (codes "drill") ≡ true)
    × IsDrill rows transfers openings
IsTask name rows Check =
    (same_text name (codes "play") ≡ false) × (same_text name (codes "drill") ≡ false)
    × (same_text name (codes "check") ≡ true)

-- The options choose these settings.
pub record Chooses (rows : List Row) (s : HubSettings) : Type 0 where
  pub participants : (text : Text) × (first_of (codes "participants") rows ≡ Some text)
      × (s.codes ≡ parts_of text)
  pub places : Gives rows (codes "places") s.places
  pub fundings : Gives rows (codes "fundings") s.fundings
  pub limit : Gives rows (codes "limit") s.limit
  pub margin : Gives rows (codes "margin") s.margin
  pub ahead : Gives rows (codes "ahead") s.ahead
  pub ceiling : Gives rows (codes "ceiling") s.ceiling
  pub base : Gives rows (codes "base") s.base

-- The numbers of a drill are below 2^16 and 2^8; other tasks have none.
abbrev pub HasSmallNumbers : Task → Type 0
HasSmallNumbers Run = Unit {0}
HasSmallNumbers Play = Unit {0}
HasSmallNumbers (Drill transfers openings) = (transfers < 2 ^ 16) × (openings < 2 ^ 8)
HasSmallNumbers Check = Unit {0}
