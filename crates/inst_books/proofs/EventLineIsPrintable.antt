-- Each byte of an event's line is a printable character.
use Rattle.std.proofs.Common.{◌≡◌, ℕ, zero, suc, ◌+◌, ◌/◌, ◌%◌, ◌<◌, Bool, true, cond, false, ◌==◌, ◌&&◌, List, [], ◌∷◌, ◌++◌, refl, sym, ap, ◌∙◌, arith, codes, decimal}
use Rattle.std.proofs.lemmas.Bool.{and_parts}
use Rattle.std.proofs.lemmas.Bool.Decides.{nat_tests}
use Rattle.std.specs.Fmt.{digits, digits_onto, digit_glyph}
use Rattle.std.specs.List.{list_all}
use Rattle.json.specs.Print.{escape, escape_byte, quoted}
use Rattle.serde_json.specs.Data.{Data, object, string}
use Rattle.serde_json.specs.Written.{compact_text}
use Rattle.inst_base.specs.Cents.{is_amount}
use Rattle.inst_base.specs.Moment.{is_moment}
use Rattle.inst_base.specs.Text.{is_latin, is_code_character, is_code, is_identifier, is_reason}
use Rattle.inst_settings.specs.Settings.{HubSettings, is_participant}
use Rattle.inst_command.specs.LineText.{code_numbered}
use Rattle.inst_command.specs.declared.outcome.Outcome.TheVariants.{Accepted, Rejected, TimedOut}
use Rattle.inst_journal.specs.declared.event.Event.{Event}
use Rattle.inst_journal.specs.declared.event.Event.TheVariants.{Funded, Defunded, Taken, Forwarded, Booked, Fetched, Opened}
use Rattle.inst_json.specs.Replies.{members, whole}
use Rattle.inst_json.proofs.TextsWithoutEscapes.{escape-code, escape-identifier, escape-reason}
use Rattle.inst_books.specs.Events.{in_book, event_member, event_can_be_written, event_line}
use Rattle.inst_json.specs.Members.{is_printable}
use Rattle.inst_books.specs.Laws.{event_has_form, outcome_has_form}
use Rattle.inst_books.proofs.ObjectTextByMembers.{more, mores, so_far, whole_object}
use Rattle.inst_books.proofs.ParticipantCodes.{code_has_form}

abbrev pub Printable : List ℕ → Type 0
Printable text = list_all is_printable text ≡ true

pub joined : (a b : List ℕ) → Printable a → Printable b → Printable (a ++ b)
joined [] b ha hb = hb
joined (x ∷ a) b ha hb =
    let parts = and_parts (is_printable x) (list_all is_printable a) ha in
    rw (parts.0, joined a b parts.1 hb) refl

-- ---- the texts of the hub, and numbers

each : (p : ℕ → Bool) → ((x : ℕ) → p x ≡ true → is_printable x ≡ true) → (text : List ℕ) → list_all p text ≡ true → Printable text
each p one [] h = refl
each p one (x ∷ text) h =
    let parts = and_parts (p x) (list_all p text) h in
    rw (one x parts.0, each p one text parts.1) refl

latin : (x : ℕ) → is_latin x ≡ true → is_printable x ≡ true
latin x h = grind (arith, nat_tests)

code_character : (x : ℕ) → is_code_character x ≡ true → is_printable x ≡ true
code_character x h = grind (arith, nat_tests)

digit : (d : ℕ) → d < 10 → is_printable (digit_glyph false d) ≡ true
digit d h = grind (arith, nat_tests)

onto : (k n : ℕ) (acc : List ℕ) → Printable acc → Printable (digits_onto k 10 false n acc)
onto zero n acc h = h
onto (suc k) n acc h =
    let last = digit (n % 10) (omega arith) in
    elim (n / 10 == 0) as (λ b. Printable (cond b (digit_glyph false (n % 10) ∷ acc) (digits_onto k 10 false (n / 10) (digit_glyph false (n % 10) ∷ acc)))) [
      | true ↦ rw (last, h) refl
      | false ↦ onto k (n / 10) (digit_glyph false (n % 10) ∷ acc) (rw (last, h) refl)
    ]

number : (n : ℕ) → Printable (decimal n)
unfolding digits
number n = onto 64 n [] refl

-- between quotes
between : (text : List ℕ) → escape text ≡ text → Printable text → Printable (quoted text)
between text plain h = joined (escape text) (34 ∷ []) (ap (list_all is_printable) plain ∙ h) refl

identifier : (text : List ℕ) → is_identifier text ≡ true → Printable (quoted text)
identifier text h = between text (escape-identifier text h) (each is_latin latin text (and_parts _ (list_all is_latin text) h).1)

code : (text : List ℕ) → is_code text ≡ true → Printable (quoted text)
code text h = between text (escape-code text h) (each is_code_character code_character text (and_parts _ (list_all is_code_character text) h).1)

reason : (text : List ℕ) → is_reason text ≡ true → Printable (quoted text)
reason text h = between text (escape-reason text h) (each is_code_character code_character text (and_parts _ (list_all is_code_character text) h).1)

-- ---- the text of an object

abbrev Rows : List (List ℕ × Data) → Type 0
Rows [] = Unit {0}
Rows (row ∷ rows) = (Printable (quoted row.0) × Printable (compact_text row.1)) × Rows rows

mores_printable : (rows : List (List ℕ × Data)) → Rows rows → Printable (mores rows)
mores_printable [] all = refl
mores_printable (row ∷ rows) all =
    joined (more row.0 row.1) (mores rows) (joined (quoted row.0) (58 ∷ compact_text row.1) all.0.0 all.0.1) (mores_printable rows all.1)

object_printable : (book : List ℕ) (rows : List (List ℕ × Data)) → Printable (quoted book) → Rows rows → Printable (compact_text (object (members (in_book book ∷ rows))))
unfolding escape_byte
object_printable book rows event_member all =
    let begin : Printable (quoted (codes "book") ++ 58 ∷ quoted book) = joined (quoted (codes "book")) (58 ∷ quoted book) refl event_member in
    ap (list_all is_printable) (sym (whole_object book rows))
    ∙ joined (so_far book rows) (125 ∷ []) (joined (123 ∷ (quoted (codes "book") ++ 58 ∷ quoted book)) (mores rows) begin (mores_printable rows all)) refl

-- ---- the line of an event

module _ (s : HubSettings) (who : ℕ) (all : list_all is_code s.codes ≡ true) (known : is_participant s who ≡ true) where
  at_code : (i : ℕ) → is_participant s i ≡ true → Printable (quoted (code_numbered s i))
  at_code i h = code (code_numbered s i) (code_has_form s i all h)

  rows_printable : (rows : List (List ℕ × Data)) → Rows rows → Printable (compact_text (object (members (in_book (code_numbered s who) ∷ rows))))
  rows_printable rows each = object_printable (code_numbered s who) rows (at_code who known) each

  pub line_printable : (event : Event) → event_can_be_written s event ≡ true → event_has_form event ≡ true → Printable (event_line s who event)
  unfolding event_line escape_byte
  line_printable (Funded funding) writable form =
      let parts = and_parts (is_identifier funding.reference) (is_amount funding.cents) form in
      rows_printable ((codes "cents", whole funding.cents) ∷ event_member (codes "funded") ∷ (codes "ref", string funding.reference) ∷ [])
      ((refl, number funding.cents), ((refl, refl), ((refl, identifier funding.reference parts.0), tt)))
  line_printable (Defunded funding) writable form =
      let parts = and_parts (is_identifier funding.reference) (is_amount funding.cents) form in
      rows_printable ((codes "cents", whole funding.cents) ∷ event_member (codes "defunded") ∷ (codes "ref", string funding.reference) ∷ [])
      ((refl, number funding.cents), ((refl, refl), ((refl, identifier funding.reference parts.0), tt)))
  line_printable (Taken id to cents stamp) writable form =
      let parts = and_parts (is_identifier id && is_amount cents) (is_moment stamp) form in
      let first = and_parts (is_identifier id) (is_amount cents) parts.0 in
      rows_printable ((codes "cents", whole cents) ∷ event_member (codes "taken") ∷ (codes "id", string id) ∷ (codes "stamp", whole (s.base + stamp)) ∷ (codes "to", string (code_numbered s to)) ∷ [])
      ((refl, number cents), ((refl, refl), ((refl, identifier id first.0), ((refl, number (s.base + stamp)), ((refl, at_code to writable), tt)))))
  line_printable (Forwarded from id cents deadline) writable form =
      let parts = and_parts (is_identifier id && is_amount cents) (is_moment deadline) form in
      let first = and_parts (is_identifier id) (is_amount cents) parts.0 in
      rows_printable ((codes "cents", whole cents) ∷ (codes "deadline", whole (s.base + deadline)) ∷ event_member (codes "forwarded") ∷ (codes "from", string (code_numbered s from)) ∷ (codes "id", string id) ∷ [])
      ((refl, number cents), ((refl, number (s.base + deadline)), ((refl, refl), ((refl, at_code from writable), ((refl, identifier id first.0), tt)))))
  line_printable (Booked from id Accepted) writable form =
      let parts = and_parts (is_identifier id) (outcome_has_form Accepted) form in
      rows_printable (event_member (codes "booked") ∷ (codes "from", string (code_numbered s from)) ∷ (codes "id", string id) ∷ (codes "outcome", string (codes "accepted")) ∷ [])
      ((refl, refl), ((refl, at_code from writable), ((refl, identifier id parts.0), ((refl, refl), tt))))
  line_printable (Booked from id (Rejected why)) writable form =
      let parts = and_parts (is_identifier id) (outcome_has_form (Rejected why)) form in
      rows_printable (event_member (codes "booked") ∷ (codes "from", string (code_numbered s from)) ∷ (codes "id", string id) ∷ (codes "outcome", string (codes "rejected")) ∷ (codes "reason", string why) ∷ [])
      ((refl, refl), ((refl, at_code from writable), ((refl, identifier id parts.0), ((refl, refl), ((refl, reason why parts.1), tt)))))
  line_printable (Booked from id TimedOut) writable form =
      let parts = and_parts (is_identifier id) (outcome_has_form TimedOut) form in
      rows_printable (event_member (codes "booked") ∷ (codes "from", string (code_numbered s from)) ∷ (codes "id", string id) ∷ (codes "outcome", string (codes "timed_out")) ∷ [])
      ((refl, refl), ((refl, at_code from writable), ((refl, identifier id parts.0), ((refl, refl), tt))))
  line_printable (Fetched count) writable form =
      rows_printable ((codes "count", whole count) ∷ event_member (codes "fetched") ∷ []) ((refl, number count), ((refl, refl), tt))
  line_printable Opened writable form = rows_printable (event_member (codes "opened") ∷ []) ((refl, refl), tt)
