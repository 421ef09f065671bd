-- A line with a time stamp before the base is no submission.
use Rattle.std.proofs.Common.{◌≡◌, ◌∙◌, ◌<◌, ◌+◌, ◌-◌, ◌&&◌, ℕ, Bool, true, false, List, Result, Ok, Err, if◌then◌else◌, nat_le, refl, sym, ap, subst, arith, Contains, ltb-true}
use Rattle.std.specs.List.{list_all}
use Rattle.std.proofs.lemmas.Bool.Decides.{nat_tests}
use Rattle.std.proofs.lemmas.List.Elements.{All-contains}
use Rattle.std.proofs.lemmas.List.Sums.{AllPass-from_list_all}
use Rattle.inst_base.specs.Moment.{is_moment, moment_of}
use Rattle.inst_base.specs.Text.{identifier_of}
use Rattle.inst_base.specs.declared.fault.Fault.{Fault}
use Rattle.inst_base.specs.declared.fault.Fault.TheVariants.{BadMoment}
use Rattle.inst_settings.specs.Settings.{HubSettings}
use Rattle.inst_command.specs.declared.ask.Ask.{Ask}
use Rattle.inst_journal.specs.declared.event.Event.{Event}
use Rattle.inst_journal.specs.declared.event.Event.TheVariants.{Taken}
use Rattle.inst_world.specs.NextOpening.{books_of}
use Rattle.inst_json.specs.Checks.{amount_of, stamp_of}
use Rattle.inst_json.specs.Commands.{submit_of}
use Rattle.inst_json.specs.Fields.{code_in, text_in, whole_in}
use Rattle.inst_json.specs.LineFields.{LineFields}
use Rattle.inst_json.specs.Refusals.{◌>>=◌, in_field}
use Rattle.inst_json.specs.declared.name.Name.{Name}
use Rattle.inst_json.specs.declared.name.Name.TheVariants as name
use Rattle.inst_books.specs.Positions.{NoOldSubmissionIsTaken, is_before_base}

-- checks that end well began well
began : {A B E : Type 0} (r : Result A E) (f : A → Result B E) (y : B) → r >>= f ≡ Ok y → (x : A) × (r ≡ Ok x) × (f x ≡ Ok y)
began (Ok x) f y is = (x, refl, is)
began (Err e) f y is = absurd (cc is)

read : {A : Type 0} (field : Name) (r : Result A Fault) (x : A) → in_field field r ≡ Ok x → r ≡ Ok x
read field (Ok y) x is = let same : y ≡ x = cc is in ap (λ v. Ok v) same
read field (Err fault) x is = absurd (cc is)

too_early : (base ms : ℕ) → ms < base → moment_of base ms ≡ Err BadMoment
too_early base ms early =
    let no : nat_le base ms ≡ false = grind (arith, nat_tests) in
    ap (λ (b : Bool). if b && is_moment (ms - base) then Ok (ms - base) else Err BadMoment) no

unstamped : (s : HubSettings) (ms stamp : ℕ) → ms < s.base → ¬ (stamp_of s ms ≡ Ok stamp)
unfolding stamp_of
unstamped s ms stamp early is =
    let (moment, at, _) = began (moment_of s.base ms) _ stamp is in
    cc (sym at ∙ too_early s.base ms early)

-- each step of a submission was taken
stamped : (s : HubSettings) (asker : _) (line : LineFields) (ask : Ask) → submit_of s asker line ≡ Ok ask → (ms stamp : ℕ) × (whole_in line.stamp ≡ Ok ms) × (stamp_of s ms ≡ Ok stamp)
unfolding submit_of
stamped s asker line ask is =
    let (id, _, a) = began (in_field name.Id (text_in line.id)) _ ask is in
    let (to, _, b) = began (in_field name.To (code_in line.to)) _ ask a in
    let (cents, _, c) = began (in_field name.Cents (whole_in line.cents)) _ ask b in
    let (ms, whole, d) = began (in_field name.Stamp (whole_in line.stamp)) _ ask c in
    let (_, _, e) = began (in_field name.Id (identifier_of id)) _ ask d in
    let (_, _, f) = began (in_field name.Cents (amount_of s cents)) _ ask e in
    let (stamp, here, _) = began (in_field name.Stamp (stamp_of s ms)) _ ask f in
    (ms, stamp, read name.Stamp (whole_in line.stamp) ms whole, read name.Stamp (stamp_of s ms) stamp here)

contained : (p : Event → Bool) (J : List Event) (event : Event) → list_all p J ≡ true → Contains J event → p event ≡ true
contained p J event all there = All-contains (λ (e : Event). p e ≡ true) J event (AllPass-from_list_all p J all) there

pub not_taken_again : NoOldSubmissionIsTaken
not_taken_again old journals s after p id to cents stamp there asker line whole ask is =
    let (ms, taken, read, at) = stamped s asker line ask is in
    let same : ms ≡ old + stamp = cc (sym read ∙ whole) in
    let early : old + stamp < s.base = ltb-true (old + stamp) s.base (contained (is_before_base old s.base) (books_of journals p) (Taken id to cents stamp) (after.stamps p) there) in
    unstamped s ms taken (subst (λ (n : ℕ). n < s.base) (sym same) early) at
