-- What a line is read as fits the hub: each check that a command or a step must pass is made in reading.
use Rattle.std.proofs.Common.{◌≡◌, ℕ, Bool, true, false, cond, ◌&&◌, List, [], Option, Some, None, Result, Ok, Err, IfOk, refl}
use Rattle.std.specs.Prelude.{ok_or, codes}
use Rattle.std.proofs.lemmas.Bool.{and_from, lt-ltb}
use Rattle.std.proofs.lemmas.List.Quantifiers.{position-Some}
use Rattle.inst_base.specs.Moment.{is_moment}
use Rattle.inst_base.specs.Text.{identifier_of}
use Rattle.inst_base.specs.TimeLimit.{deadline_of}
use Rattle.inst_base.specs.declared.fault.Fault.{Fault}
use Rattle.inst_base.specs.declared.fault.Fault.TheVariants.{BadField, BadAmount, BadMoment, UnknownParticipant}
use Rattle.inst_settings.specs.Settings.{HubSettings, is_participant, is_within_ceiling, same_text}
use Rattle.inst_settings.specs.Codes.{index_of}
use Rattle.inst_command.specs.Ask.{is_count, ask_fits}
use Rattle.inst_command.specs.Step.{step_fits}
use Rattle.inst_json.specs.Asker.{asker_of, known_of}
use Rattle.inst_json.specs.Checks.{amount_of, stamp_of, participant_of}
use Rattle.inst_json.specs.Commands.{funding_of, submit_of, received_of, reject_of, investigate_of, fetch_of, statement_of, command_of, ask_of}
use Rattle.inst_json.specs.Fields.{text_in, whole_in, code_in, reason_in, count_in, place_in, is_there}
use Rattle.inst_json.specs.Lines.{json_of, command_of_line, blamed_command_of_line, step_of_line, blamed_step_of_line}
use Rattle.inst_json.specs.Refusals.{◌>>=◌, in_field, as_whole, by_fault}
use Rattle.inst_json.specs.Steps.{passing_of, deliver_of, learn_of, expire_of, step_named, move_of, asked_of, step_of}
use Rattle.inst_json.specs.Verb.{verb_of, verb_in}
use Rattle.inst_json.specs.declared.name.Name.{Name}
use Rattle.inst_json.specs.declared.name.Name.TheVariants as name
use Rattle.inst_json.specs.declared.refusal.Refusal.{Refusal}

-- what is read, if it isn't refused, has this property
record Gives {A E : Type 0} (r : Result A E) (P : A → Type 0) : Type 0 where
  if_ok : IfOk r P

given : {A E : Type 0} {P : A → Type 0} (x : A) → P x → Gives {E = E} (Ok x) P
given x h = record { if_ok = h }

-- one step after another, of which the first gives something that the other needs, or nothing
after : {A B E : Type 0} {Q : A → Type 0} {P : B → Type 0} (r : Result A E) (f : A → Result B E) → Gives r Q → ((x : A) → Q x → Gives (f x) P) → Gives (r >>= f) P
after (Ok x) f first more = more x first.if_ok
after (Err e) f first more = record { if_ok = tt }

after_any : {A B E : Type 0} {P : B → Type 0} (r : Result A E) (f : A → Result B E) → ((x : A) → Gives (f x) P) → Gives (r >>= f) P
after_any (Ok x) f more = more x
after_any (Err e) f more = record { if_ok = tt }

-- so where a field is read first
after_field : {A B : Type 0} {Q : A → Type 0} {P : B → Type 0} (name : Name) (r : Result A Fault) (f : A → Result B Refusal) → Gives r Q → ((x : A) → Q x → Gives (f x) P)
    → Gives (in_field name r >>= f) P
after_field name (Ok x) f first more = more x first.if_ok
after_field name (Err fault) f first more = record { if_ok = tt }

any_field : {A B : Type 0} {P : B → Type 0} (name : Name) (r : Result A Fault) (f : A → Result B Refusal) → ((x : A) → Gives (f x) P) → Gives (in_field name r >>= f) P
any_field name (Ok x) f more = more x
any_field name (Err fault) f more = record { if_ok = tt }

if_faultless : {A : Type 0} {P : A → Type 0} (r : Result A Refusal) → Gives r P → IfOk (by_fault r) P
if_faultless (Ok x) h = h.if_ok
if_faultless (Err refusal) h = tt

-- one of two, by a test
if_tested : {A E : Type 0} {P : A → Type 0} (b : Bool) (x : A) (e : E) → (b ≡ true → P x) → Gives (cond b (Ok x) (Err e)) P
if_tested true x e h = given x (h refl)
if_tested false x e h = record { if_ok = tt }

either : {A E : Type 0} {P : A → Type 0} (b : Bool) (x y : Result A E) → Gives x P → Gives y P → Gives (cond b x y) P
either true x y first second = first
either false x y first second = second

-- the checks
amount_fits : (s : HubSettings) (cents : ℕ) → Gives (amount_of s cents) (λ n. is_within_ceiling s n ≡ true)
unfolding amount_of
amount_fits s cents = if_tested (is_within_ceiling s cents) cents BadAmount (λ e. e)

stamp_fits : (s : HubSettings) (ms : ℕ) → Gives (stamp_of s ms) (λ stamp. is_moment (deadline_of s.limit stamp) ≡ true)
unfolding stamp_of
stamp_fits s ms = after_any _ _ (λ stamp. if_tested (is_moment (deadline_of s.limit stamp)) stamp BadMoment (λ e. e))

participant_fits : (s : HubSettings) (code : List ℕ) → Gives (participant_of s code) (λ n. is_participant s n ≡ true)
unfolding participant_of
participant_fits s code = go (index_of code s.codes) refl
  where
    go : (o : Option ℕ) → index_of code s.codes ≡ o → Gives (ok_or o UnknownParticipant) (λ n. is_participant s n ≡ true)
    go None e = record { if_ok = tt }
    go (Some n) e = given n (lt-ltb n _ (position-Some (same_text code) s.codes n [] e).0)

count_fits : (field : _) → Gives (count_in field) (λ n. is_count n ≡ true)
unfolding count_in
count_fits field = after_any (whole_in field) _ (λ count. if_tested (is_count count) count BadField (λ e. e))

known_fits : (s : HubSettings) (asker : _) → Gives (known_of s asker) (λ known. is_participant s known.who ≡ true)
unfolding known_of
known_fits s asker = after_any _ _ (λ at. after_field name.Who _ _ (participant_fits s asker.who) (λ who own. given _ own))

-- the commands
funding_fits : (s : HubSettings) (asker : _) (line : _)
    → Gives (funding_of s asker line) (λ asked. (is_participant s asked.asker.who && is_within_ceiling s asked.funding.cents) ≡ true)
unfolding funding_of
funding_fits s asker line =
    any_field name.Reference (text_in line.reference) _ (λ text.
    any_field name.Cents (whole_in line.cents) _ (λ cents.
    any_field name.Reference (identifier_of text) _ (λ reference.
    after_field name.Cents (amount_of s cents) _ (amount_fits s cents) (λ amount within.
    after (known_of s asker) _ (known_fits s asker) (λ known own. given _ (and_from _ _ own within))))))

submit_fits : (s : HubSettings) (asker : _) (line : _) → Gives (submit_of s asker line) (λ ask. ask_fits s ask ≡ true)
unfolding submit_of
submit_fits s asker line =
    any_field name.Id (text_in line.id) _ (λ text.
    any_field name.To (code_in line.to) _ (λ to.
    any_field name.Cents (whole_in line.cents) _ (λ cents.
    any_field name.Stamp (whole_in line.stamp) _ (λ ms.
    any_field name.Id (identifier_of text) _ (λ id.
    after_field name.Cents (amount_of s cents) _ (amount_fits s cents) (λ amount within.
    after_field name.Stamp (stamp_of s ms) _ (stamp_fits s ms) (λ stamp in_time.
    after (known_of s asker) _ (known_fits s asker) (λ known own.
    after_field name.To (participant_of s to) _ (participant_fits s to) (λ number there.
    given _ (and_from _ _ own (and_from _ _ (and_from _ _ there within) in_time)))))))))))

received_fits : (s : HubSettings) (asker : _) (line : _)
    → Gives (received_of s asker line) (λ received. (is_participant s received.asker.who && is_participant s received.from) ≡ true)
unfolding received_of
received_fits s asker line =
    any_field name.From (code_in line.from) _ (λ from.
    any_field name.Id (text_in line.id) _ (λ text.
    any_field name.Id (identifier_of text) _ (λ id.
    after (known_of s asker) _ (known_fits s asker) (λ known own.
    after_field name.From (participant_of s from) _ (participant_fits s from) (λ number there. given _ (and_from _ _ own there))))))

reject_fits : (s : HubSettings) (asker : _) (line : _) → Gives (reject_of s asker line) (λ ask. ask_fits s ask ≡ true)
unfolding reject_of
reject_fits s asker line =
    any_field name.Reason (reason_in line.reason) _ (λ reason. after (received_of s asker line) _ (received_fits s asker line) (λ received fits. given _ fits))

investigate_fits : (s : HubSettings) (asker : _) (line : _) → Gives (investigate_of s asker line) (λ ask. ask_fits s ask ≡ true)
unfolding investigate_of
investigate_fits s asker line =
    any_field name.Id (text_in line.id) _ (λ text.
    any_field name.Id (identifier_of text) _ (λ id.
    after (known_of s asker) _ (known_fits s asker) (λ known own. given _ (and_from _ _ own refl))))

fetch_fits : (s : HubSettings) (asker : _) (line : _) → Gives (fetch_of s asker line) (λ ask. ask_fits s ask ≡ true)
unfolding fetch_of
fetch_fits s asker line =
    after_field name.Max (count_in line.max) _ (count_fits line.max) (λ max few. after (known_of s asker) _ (known_fits s asker) (λ known own. given _ (and_from _ _ own few)))

statement_fits : (s : HubSettings) (asker : _) (line : _) → Gives (statement_of s asker line) (λ ask. ask_fits s ask ≡ true)
unfolding statement_of
statement_fits s asker line =
    any_field name.Skip (whole_in line.skip) _ (λ skip.
    after_field name.Count (count_in line.count) _ (count_fits line.count) (λ count few.
    after (known_of s asker) _ (known_fits s asker) (λ known own. given _ (and_from _ _ own few))))

-- the command of each verb
verb_fits : (s : HubSettings) (line : _) (text : List ℕ) → Gives (verb_of text) (λ verb. (asker : _) → Gives (command_of s asker line verb) (λ ask. ask_fits s ask ≡ true))
unfolding verb_of command_of
verb_fits s line text =
    either (same_text text (codes "fund")) _ _ (given _ (λ asker. after (funding_of s asker line) _ (funding_fits s asker line) (λ funding fits. given _ fits)))
    (either (same_text text (codes "defund")) _ _ (given _ (λ asker. after (funding_of s asker line) _ (funding_fits s asker line) (λ funding fits. given _ fits)))
    (either (same_text text (codes "submit")) _ _ (given _ (λ asker. submit_fits s asker line))
    (either (same_text text (codes "confirm")) _ _ (given _ (λ asker. after (received_of s asker line) _ (received_fits s asker line) (λ received fits. given _ fits)))
    (either (same_text text (codes "reject")) _ _ (given _ (λ asker. reject_fits s asker line))
    (either (same_text text (codes "investigate")) _ _ (given _ (λ asker. investigate_fits s asker line))
    (either (same_text text (codes "fetch")) _ _ (given _ (λ asker. fetch_fits s asker line))
    (either (same_text text (codes "position")) _ _ (given _ (λ asker. after (known_of s asker) _ (known_fits s asker) (λ known own. given _ (and_from _ _ own refl))))
    (if_tested (same_text text (codes "statement")) _ BadField (λ e asker. statement_fits s asker line)))))))))

verb_in_fits : (s : HubSettings) (line : _) (field : _) → Gives (verb_in field) (λ verb. (asker : _) → Gives (command_of s asker line verb) (λ ask. ask_fits s ask ≡ true))
unfolding verb_in
verb_in_fits s line field = after_any (text_in field) _ (λ text. verb_fits s line text)

asked_fits : (s : HubSettings) (line : _) → Gives (ask_of s line) (λ ask. ask_fits s ask ≡ true)
unfolding ask_of
asked_fits s line = after_field name.Cmd (verb_in line.cmd) _ (verb_in_fits s line line.cmd) (λ verb fits. after_any (asker_of line) _ (λ asker. fits asker))

-- the steps
passing_fits : (s : HubSettings) (line : _) → Gives (passing_of s line) (λ passing. (is_participant s passing.who ≡ true) × (is_participant s passing.from ≡ true))
unfolding passing_of
passing_fits s line =
    any_field name.Who (code_in line.who) _ (λ who.
    any_field name.From (code_in line.from) _ (λ from.
    any_field name.Place (place_in line.place) _ (λ index.
    after_field name.Who (participant_of s who) _ (participant_fits s who) (λ number one.
    after_field name.From (participant_of s from) _ (participant_fits s from) (λ originator other. given _ (one, other))))))

deliver_fits : (s : HubSettings) (line : _) → Gives (deliver_of s line) (λ step. step_fits s step ≡ true)
unfolding deliver_of
deliver_fits s line = after (passing_of s line) _ (passing_fits s line) (λ passing both. given _ (and_from _ _ both.1 both.0))

learn_fits : (s : HubSettings) (line : _) → Gives (learn_of s line) (λ step. step_fits s step ≡ true)
unfolding learn_of
learn_fits s line = after (passing_of s line) _ (passing_fits s line) (λ passing both. given _ (and_from _ _ both.0 both.1))

expire_fits : (s : HubSettings) (line : _) → Gives (expire_of s line) (λ step. step_fits s step ≡ true)
unfolding expire_of
expire_fits s line =
    after_any (asker_of line) _ (λ asker.
    any_field name.Place (place_in line.place) _ (λ index. after (known_of s asker) _ (known_fits s asker) (λ known own. given _ own)))

named_fits : (s : HubSettings) (line : _) (text : List ℕ) → Gives (step_named s line text) (λ step. step_fits s step ≡ true)
named_fits s line text =
    either (same_text text (codes "deliver")) _ _ (deliver_fits s line)
    (either (same_text text (codes "learn")) _ _ (learn_fits s line)
    (either (same_text text (codes "expire")) _ _ (expire_fits s line) (record { if_ok = tt })))

move_fits : (s : HubSettings) (line : _) → Gives (move_of s line) (λ step. step_fits s step ≡ true)
unfolding move_of
move_fits s line = any_field name.Step (text_in line.step) _ (λ text. named_fits s line text)

asked_step_fits : (s : HubSettings) (line : _) → Gives (asked_of s line) (λ step. step_fits s step ≡ true)
unfolding asked_of
asked_step_fits s line = after (ask_of s line) _ (asked_fits s line) (λ ask fits. given _ fits)

read_step_fits : (s : HubSettings) (line : _) → Gives (step_of s line) (λ step. step_fits s step ≡ true)
unfolding step_of
read_step_fits s line = either (is_there line.step) _ _ (move_fits s line) (asked_step_fits s line)

-- the lines
pub ask_of_line_fits : (s : HubSettings) (line : List ℕ) → IfOk (command_of_line s line) (λ ask. ask_fits s ask ≡ true)
unfolding command_of_line blamed_command_of_line
ask_of_line_fits s line = if_faultless _ (after_any (as_whole (json_of line)) _ (λ value. asked_fits s _))

pub step_of_line_fits : (s : HubSettings) (line : List ℕ) → IfOk (step_of_line s line) (λ step. step_fits s step ≡ true)
unfolding step_of_line blamed_step_of_line
step_of_line_fits s line = if_faultless _ (after_any (as_whole (json_of line)) _ (λ value. read_step_fits s _))
