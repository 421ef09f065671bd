-- The commands by their names in lines. The names are a choice of this hub.
use Rattle.std.specs.Prelude.{ℕ, List, Result, Ok, Err, if◌then◌else◌, codes}
use Rattle.inst_base.specs.declared.fault.Fault.{Fault}
use Rattle.inst_base.specs.declared.fault.Fault.TheVariants.{BadField}
use Rattle.inst_settings.specs.Settings.{same_text}
use Rattle.inst_json.specs.LineFields.{FoundValue}
use Rattle.inst_json.specs.Refusals.{◌>>=◌}
use Rattle.inst_json.specs.Fields.{text_in}
use Rattle.inst_json.specs.declared.verb.Verb.{Verb}
use Rattle.inst_json.specs.declared.verb.Verb.TheVariants.{Fund, Defund, Submit, Confirm, Reject}
use Rattle.inst_json.specs.declared.verb.Verb.TheVariants.{Investigate, Fetch, Position, Statement}

-- The verb of a name, or BadField.
unfoldable pub verb_of : List ℕ → Result Verb Fault
verb_of name =
    if same_text name (codes "fund") then Ok Fund else
    (if same_text name (codes "defund") then Ok Defund else
    (if same_text name (codes "submit") then Ok Submit else
    (if same_text name (codes "confirm") then Ok Confirm else
    (if same_text name (codes "reject") then Ok Reject else
    (if same_text name (codes "investigate") then Ok Investigate else
    (if same_text name (codes "fetch") then Ok Fetch else
    (if same_text name (codes "position") then Ok Position else
    (if same_text name (codes "statement") then Ok Statement else Err BadField))))))))

-- The verb in a field.
unfoldable pub verb_in : FoundValue → Result Verb Fault
verb_in field = text_in field >>= verb_of
