-- Options that choose no settings that a hub can have, and the faults that say so.
use Rattle.std.proofs.Common.{◌≡◌, ⊎_elim, ◌<◌, ◌≤◌, ◌^◌, ℕ, true, false, List, length, Option, Some, None, Result, Ok, Err, option_map, IfErr, OnErr, OkIff, IsErrAnd, IsOkUnless, is_ok, ◌⊎◌, codes, sym, ap, ap₂, subst, ◌∙◌, inl, inr, refl, arith}
use Rattle.std.specs.Str.Parse.{digits_value, without_leading_plus}
use Rattle.std.proofs.lemmas.Bool.{cases_lt}
use Rattle.std.proofs.lemmas.Slice.Eq.{bytes_eq-Decides}
use Rattle.clap.specs.Words.{Row, Text, subcommand_of}
use Rattle.inst_settings.specs.Parts.{parts_of}
use Rattle.inst_base.specs.declared.fault.Fault.{Fault}
use Rattle.inst_base.specs.declared.fault.Fault.TheVariants.{BadSettings}
use Rattle.inst_settings.specs.Settings.{HubSettings, same_text}
use Rattle.inst_settings.specs.Lawful.{IsSettings, are_different}
use Rattle.inst_options.specs.CommandLine.{command_line}
use Rattle.inst_options.specs.Options.{Chooses, Gives, GivesNoneBelow, HasAHub, IsTask, AreOfNoLog, Task}
use Rattle.inst_options.specs.inner.Asking.{IsAsked, IsUnasked}
use Rattle.inst_options.specs.inner.Options.{AskForNone, ChooseNone, FitNoTask, GivesLog, IsWish}
use Rattle.inst_options.specs.Options.Task.{Run, Play, Drill, Check}
use Rattle.inst_options.specs.Asking.{AreChosen, AreUnfit, AreWhole, IsNoWish, IsBeginRefusal, IsWished, GiveTheLog}
use Rattle.inst_options.specs.declared.error.WordsError.{WordsError}
use Rattle.inst_options.specs.declared.error.WordsError.TheVariants as error
use Rattle.inst_options.specs.declared.invocation.LogOptions.{LogOptions}
use Rattle.inst_options.specs.declared.invocation.Invocation.{Invocation}
use Rattle.inst_options.specs.declared.invocation.Invocation.TheVariants as wish
use Rattle.inst_options.proofs.OptionTextsAndNumbers.{unwished}

-- the number of an option is one
pub given_one : (rows : List Row) (name : List ℕ) (n m : ℕ) → Gives rows name n → Gives rows name m → n ≡ m
given_one rows name n m (text, at, numeral, is) (text', at', numeral', is') =
    let same : text ≡ text' = cc in
    is ∙ ap (λ (t : List ℕ). digits_value 10 (without_leading_plus t)) same ∙ sym is'

-- and so are the codes
pub codes_one : (rows : List Row) (s t : HubSettings) → Chooses rows s → Chooses rows t → s.codes ≡ t.codes
codes_one rows s t a b =
    let text : a.participants.0 ≡ b.participants.0 = cc (a.participants.1, b.participants.1) in
    a.participants.2 ∙ ap parts_of text ∙ sym b.participants.2

-- and so are the settings that options choose: what one is in range of, the other is too
pub chosen_one : (rows : List Row) (s t : HubSettings) → Chooses rows s → Chooses rows t → IsSettings s → IsSettings t
chosen_one rows s t a b is =
    let codes_same = codes_one rows s t a b in
    let places = given_one rows (codes "places") s.places t.places a.places b.places in
    let fundings = given_one rows (codes "fundings") s.fundings t.fundings a.fundings b.fundings in
    let limit = given_one rows (codes "limit") s.limit t.limit a.limit b.limit in
    let margin = given_one rows (codes "margin") s.margin t.margin a.margin b.margin in
    let ahead = given_one rows (codes "ahead") s.ahead t.ahead a.ahead b.ahead in
    let ceiling = given_one rows (codes "ceiling") s.ceiling t.ceiling a.ceiling b.ceiling in
    let base = given_one rows (codes "base") s.base t.base a.base b.base in record {
      participants_some = subst (λ (all : List (List ℕ)). 1 ≤ length all) codes_same is.participants_some;
      participants_most = subst (λ (all : List (List ℕ)). length all ≤ 256) codes_same is.participants_most;
      different = subst (λ (all : List (List ℕ)). are_different all ≡ true) codes_same is.different;
      places_some = subst (λ (n : ℕ). 1 ≤ n) places is.places_some;
      places_most = subst (λ (n : ℕ). n ≤ 1024) places is.places_most;
      fundings_some = subst (λ (n : ℕ). 1 ≤ n) fundings is.fundings_some;
      fundings_most = subst (λ (n : ℕ). n ≤ 1024) fundings is.fundings_most;
      limit_some = subst (λ (n : ℕ). 1 ≤ n) limit is.limit_some;
      limit_most = subst (λ (n : ℕ). n ≤ 3600000) limit is.limit_most;
      margin_below = subst (λ (n : ℕ). n < t.limit) margin (subst (λ (n : ℕ). s.margin < n) limit is.margin_below);
      ahead_most = subst (λ (n : ℕ). n ≤ 60000) ahead is.ahead_most;
      ceiling_some = subst (λ (n : ℕ). 1 ≤ n) ceiling is.ceiling_some;
      ceiling_most = subst (λ (n : ℕ). n ≤ 99999999999) ceiling is.ceiling_most;
      base_most = subst (λ (n : ℕ). n ≤ 2 ^ 62) base is.base_most;
    }

-- settings that are out of range are refused
pub none_in_range : (rows : List Row) (t : HubSettings) → Chooses rows t → ¬ (IsSettings t) → ChooseNone rows
none_in_range rows t chosen out s other good = out (chosen_one rows s t other chosen good.lawful)

-- a number that is too large for its type is out of range
pub no_places : (rows : List Row) → GivesNoneBelow (2 ^ 16) rows (codes "places") → ChooseNone rows
no_places rows none s chosen good = let least = none s.places chosen.places in let most = good.lawful.places_most in omega arith

pub no_fundings : (rows : List Row) → GivesNoneBelow (2 ^ 16) rows (codes "fundings") → ChooseNone rows
no_fundings rows none s chosen good = let least = none s.fundings chosen.fundings in let most = good.lawful.fundings_most in omega arith

pub no_limit : (rows : List Row) → GivesNoneBelow (2 ^ 32) rows (codes "limit") → ChooseNone rows
no_limit rows none s chosen good = let least = none s.limit chosen.limit in let most = good.lawful.limit_most in omega arith

pub no_margin : (rows : List Row) → GivesNoneBelow (2 ^ 32) rows (codes "margin") → ChooseNone rows
no_margin rows none s chosen good =
    let least = none s.margin chosen.margin in
    let most = good.lawful.limit_most in
    let below = good.lawful.margin_below in
    omega arith

pub no_ahead : (rows : List Row) → GivesNoneBelow (2 ^ 32) rows (codes "ahead") → ChooseNone rows
no_ahead rows none s chosen good = let least = none s.ahead chosen.ahead in let most = good.lawful.ahead_most in omega arith

pub no_ceiling : (rows : List Row) → GivesNoneBelow (2 ^ 64) rows (codes "ceiling") → ChooseNone rows
no_ceiling rows none s chosen good = let least = none s.ceiling chosen.ceiling in let most = good.lawful.ceiling_most in omega arith

pub no_base : (rows : List Row) → GivesNoneBelow (2 ^ 64) rows (codes "base") → ChooseNone rows
no_base rows none s chosen good = let least = none s.base chosen.base in let most = good.lawful.base_most in omega arith

-- a number that is too large for a smaller type, told as another error
pub none_narrow : {E F : Type 0} (r : Result ℕ E) (q : Result ℕ F) (bound n : ℕ) (rows : List Row) (name : List ℕ) → is_ok q ≡ is_ok r → OkIff r (n < bound) n →
    Gives rows name n → OnErr q (GivesNoneBelow bound rows name)
none_narrow r (Ok y) bound n rows name same fits gives = tt
none_narrow (Ok x) (Err e) bound n rows name same fits gives = absurd (cc)
none_narrow (Err d) (Err e) bound n rows name same fits gives = λ m gives'.
    subst (λ (k : ℕ). bound ≤ k) (given_one rows name n m gives gives') (at_least (cases_lt n bound) fits) where
      at_least : (n < bound) ⊎ (bound ≤ n) → ¬ (n < bound) → bound ≤ n
      at_least (inl below) large = absurd (large below)
      at_least (inr least) large = least

-- bad settings that are passed on, with why
pub passed_on : {A : Type 0} (P : Type 0) (r : Result A Fault) (fault : Fault) → IsErrAnd r (λ e. e ≡ fault) → fault ≡ BadSettings → P → IfErr r (IsBeginRefusal P)
passed_on P (Ok x) fault is bad p = tt
passed_on P (Err e) fault is bad p = inr (is ∙ bad, p)

pub refused_by : {A : Type 0} (P Q : Type 0) (r : Result A Fault) → IsOkUnless r BadSettings → (Q → P) → OnErr r Q → IfErr r (IsBeginRefusal P)
refused_by P Q (Ok x) bad weaker q = tt
refused_by P Q (Err e) bad weaker q = inr (bad, weaker q)

pub passed_more : {A : Type 0} (P Q : Type 0) (r : Result A Fault) (fault : Fault) → IsErrAnd r (λ e. e ≡ fault) → (Q → P) → IsBeginRefusal Q fault → IfErr r (IsBeginRefusal P)
passed_more P Q (Ok x) fault is weaker q = tt
passed_more P Q (Err e) fault is weaker (inl memory) = inl (is ∙ memory)
passed_more P Q (Err e) fault is weaker (inr bad) = inr (is ∙ bad.0, weaker bad.1)

-- options that choose no settings do so for each task
pub none_of_all : (name : List ℕ) (rows : List Row) → HasAHub name → ChooseNone rows → AskForNone name rows
none_of_all name rows hub none = (hub, λ task s is chosen good. none s chosen good.0)

-- a name is no other one
pub no_other : (name one other : List ℕ) → same_text name one ≡ true → same_text one other ≡ false → same_text name other ≡ false
no_other name one other is differs = ap (λ (n : List ℕ). same_text n other) ((bytes_eq-Decides name one).0 is) ∙ differs

-- a number of a drill that is too large for its type is too large for any hub
no_transfers : (name : List ℕ) (rows : List Row) → same_text name (codes "play") ≡ false → same_text name (codes "drill") ≡ true →
    GivesNoneBelow (2 ^ 16) rows (codes "transfers") → FitNoTask name rows
no_transfers name rows other drill none Run s is chosen good = let no : ⊥ = cc (is.1, drill) in absurd no
no_transfers name rows other drill none Check s is chosen good = let no : ⊥ = cc (is.1, drill) in absurd no
no_transfers name rows other drill none Play s is chosen good = let no : ⊥ = cc (is, other) in absurd no
no_transfers name rows other drill none (Drill transfers openings) s is chosen good =
    let least = none transfers is.2.0 in
    let most = good.1.0 in
    omega arith

no_openings : (name : List ℕ) (rows : List Row) → same_text name (codes "play") ≡ false → same_text name (codes "drill") ≡ true →
    GivesNoneBelow (2 ^ 8) rows (codes "openings") → FitNoTask name rows
no_openings name rows other drill none Run s is chosen good = let no : ⊥ = cc (is.1, drill) in absurd no
no_openings name rows other drill none Check s is chosen good = let no : ⊥ = cc (is.1, drill) in absurd no
no_openings name rows other drill none Play s is chosen good = let no : ⊥ = cc (is, other) in absurd no
no_openings name rows other drill none (Drill transfers openings) s is chosen good =
    let least = none openings is.2.1 in
    let most = good.1.1 in
    omega arith

pub numberless : {A : Type 0} (name : List ℕ) (rows : List Row) (r : Result A Fault) (fault : Fault) → HasAHub name → same_text name (codes "play") ≡ false → same_text name (codes "drill") ≡ true →
    IsErrAnd r (λ e. e ≡ fault) → GivesNoneBelow (2 ^ 16) rows (codes "transfers") ⊎ GivesNoneBelow (2 ^ 8) rows (codes "openings") → fault ≡ BadSettings →
    IfErr r (IsBeginRefusal (AskForNone name rows ⊎ AreOfNoLog rows))
numberless name rows r fault hub other drill is none bad =
    passed_on (AskForNone name rows ⊎ AreOfNoLog rows) r fault is bad
    (inl (hub, ⊎_elim (no_transfers name rows other drill) (no_openings name rows other drill) none))

-- words name one subcommand, and where it has a hub, they name none that has none
pub hub_of : (words : List (List ℕ)) (name : List ℕ) (rows : List Row) → subcommand_of command_line words ≡ Some (name, rows) → HasAHub name →
    (other : List ℕ) (more : List Row) → subcommand_of command_line words ≡ Some (other, more) → HasAHub other
hub_of words name rows at hub other more so =
    let e : Some (name, rows) ≡ Some (other, more) = sym at ∙ so in
    let same : name ≡ other = ap (λ (o : Option (List ℕ × List Row)). elim o [ None ↦ name | Some p ↦ p.0 ]) e in
    subst (λ (n : List ℕ). HasAHub n) same hub

-- what is chosen by words is chosen by their subcommand and its options
pub chosen_by : (words : List (List ℕ)) (name : List ℕ) (rows : List Row) (task : Task) (s : HubSettings) → subcommand_of command_line words ≡ Some (name, rows) →
    AreChosen words task s → IsTask name rows task × Chooses rows s
chosen_by words name rows task s at chosen =
    let e : Some (chosen.0, chosen.1) ≡ Some (name, rows) = sym chosen.2 ∙ at in
    let same_name : chosen.0 ≡ name = ap (λ (o : Option (List ℕ × List Row)). elim o [ None ↦ name | Some p ↦ p.0 ]) e in
    let same : chosen.1 ≡ rows = ap (λ (o : Option (List ℕ × List Row)). elim o [ None ↦ rows | Some p ↦ p.1 ]) e in
    let is = subst (λ (n : List ℕ). IsTask n rows task) same_name (subst (λ (r : List Row). IsTask chosen.0 r task) same chosen.3) in
    (is, subst (λ (r : List Row). Chooses r s) same chosen.4)

-- words whose subcommand and options choose no settings that a hub can have, or no task that fits
unfit : (words : List (List ℕ)) (name : List ℕ) (rows : List Row) → AreWhole words → subcommand_of command_line words ≡ Some (name, rows) →
    AskForNone name rows → AreUnfit words
unfit words name rows whole at none = record {
  whole = whole;
  hub = hub_of words name rows at none.0;
  none = λ task s chosen. let is = chosen_by words name rows task s at chosen in none.1 task s is.0 is.1;
}

pub unsettled : (words : List (List ℕ)) (name : List ℕ) (rows : List Row) (fault : Fault) → AreWhole words → subcommand_of command_line words ≡ Some (name, rows) →
    IsBeginRefusal (AskForNone name rows ⊎ AreOfNoLog rows) fault → IsNoWish words (error.Fault fault)
unsettled words name rows fault whole at (inl memory) = inl memory
unsettled words name rows fault whole at (inr bad) =
    inr (bad.0, ⊎_elim (λ none. inl (unfit words name rows whole at none)) (λ speaks. inr (whole, (name, rows, at, speaks))) bad.1)

-- the log of a run or a play
names_it : (words : List (List ℕ)) (name : List ℕ) (rows : List Row) (log : Option LogOptions) → subcommand_of command_line words ≡ Some (name, rows) →
    GivesLog rows log → GiveTheLog words log
names_it words name rows None at gives = (name, rows, at, gives)
names_it words name rows (Some log) at gives = (name, rows, at, gives)

-- what the subcommand and its options ask for is what the words do
pub wished_of : (words : List (List ℕ)) (name : List ℕ) (rows : List Row) (wish : Invocation) → AreWhole words → subcommand_of command_line words ≡ Some (name, rows) →
    IsWish name rows wish → IsWished words wish
wished_of words name rows (wish.Run s log sums) whole at is =
    (is.0, whole, (name, rows, at, is.1, is.2), names_it words name rows log at is.3, (name, rows, at, is.4))
wished_of words name rows (wish.Play s log sums) whole at is =
    (is.0, whole, (name, rows, at, is.1, is.2), names_it words name rows log at is.3, (name, rows, at, is.4))
wished_of words name rows (wish.Drill s transfers openings script) whole at is =
    (is.0, whole, (name, rows, at, is.1, is.2), (name, rows, at, is.3))
wished_of words name rows (wish.Check s) whole at is = (is.0, whole, (name, rows, at, is.1, is.2))
wished_of words name rows (wish.Log path) whole at is = (whole, (name, rows, at, is.0, is.1))
wished_of words name rows (wish.Next next) whole at is = (whole, (name, rows, at, is.0, is.1, is.2, is.3, is.4, is.5))
wished_of words name rows (wish.Audit files) whole at is = (whole, (name, rows, at, is.0, is.1))
wished_of words name rows (wish.Explain word) whole at is = (whole, (name, rows, at, is.0, is.1))

pub wished_from : (words : List (List ℕ)) (found : Option (Text × List Row)) → AreWhole words → found ≡ subcommand_of command_line words →
    (wish : Invocation) → IsAsked found wish → IsWished words wish
wished_from words None whole at wish is = absurd is
wished_from words (Some (name, rows)) whole at wish is = wished_of words name rows wish whole (sym at) is

-- words with no subcommand choose nothing
none_chosen : (words : List (List ℕ)) → AreWhole words → subcommand_of command_line words ≡ None → AreUnfit words
none_chosen words whole at = record {
  whole = whole;
  hub = λ name rows so. let no : ⊥ = cc (at, so) in absurd no;
  none = λ task s chosen. let no : ⊥ = cc (at, chosen.2) in absurd no;
}

-- and why they ask for nothing is why their subcommand does
pub unwished_from : (words : List (List ℕ)) (found : Option (Text × List Row)) → AreWhole words → found ≡ subcommand_of command_line words →
    (e : WordsError) → IsUnasked found e → IsNoWish words e
unwished_from words None whole at e is = subst (IsNoWish words) (sym is) (inr (refl, inl (none_chosen words whole (sym at))))
unwished_from words (Some (name, rows)) whole at e is =
    unwished words name rows is.0 e (sym at) is.1 (unsettled words name rows is.0 whole (sym at) is.2)

-- the name and the rows of a subcommand, found one by one
pub both_of : {B : Type 0} (X : Option B) (n : B → List ℕ) (r : B → List Row) (name : List ℕ) (rows : List Row) → Some name ≡ option_map n X
    → Some rows ≡ option_map (λ (p : List ℕ × List Row). p.1) (option_map {U = List ℕ × List Row} (λ b. (n b, r b)) X)
    → option_map {U = List ℕ × List Row} (λ b. (n b, r b)) X ≡ Some (name, rows)
both_of None n r name rows e f = let no : ⊥ = cc in absurd no
both_of (Some b) n r name rows e f =
    let first : n b ≡ name = cc in
    let second : r b ≡ rows = cc in
    ap₂ (λ (x : List ℕ) (y : List Row). Some (x, y)) first second
