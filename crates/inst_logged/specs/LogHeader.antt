-- The first line of a log, as it is read. A choice of this hub.
use Rattle.std.specs.Prelude.{◌≡◌, ◌⊎◌, ◌<◌, ◌^◌, List, ℕ, [], ◌∷◌, ◌++◌, IfSome}
use Rattle.inst_settings.specs.Settings.{HubSettings}
use Rattle.inst_settings.specs.Lawful.{AreOfAHub}
use Rattle.inst_base.specs.Newline.{newline}
use Rattle.inst_lines.specs.declared.mode.Mode.{Mode}
use Rattle.inst_chain.specs.Chain.{IsHexadecimal}
use Rattle.inst_logged.specs.declared.header.Origin.{Origin}
use Rattle.inst_logged.specs.declared.version.Version.{Version}
use Rattle.inst_logged.specs.declared.log_header.LogHeader.{LogHeader}
use Rattle.inst_logged.specs.Header.{header_line}

-- The bytes are the settings line of such a log, with or without its newline.
pub record IsHeaderLine (version : Version) (mode : Mode) (s : HubSettings) (origin : Origin)
    (bytes : List ℕ) : Type 0 where
  pub settings : AreOfAHub s
  pub word : IfSome origin.books (λ count. count < 2 ^ 64)
  pub digest : IfSome origin.previous IsHexadecimal
  pub line : (bytes ≡ header_line version mode s origin)
      ⊎ (bytes ≡ header_line version mode s origin ++ newline ∷ [])

-- The contents of such a line.
abbrev pub beginning_with : Mode → HubSettings → Origin → LogHeader
beginning_with mode s origin =
    record { mode = mode; settings = s; books = origin.books; previous = origin.previous }
