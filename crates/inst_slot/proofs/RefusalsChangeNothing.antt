-- What is refused leaves the books and what the board's holder knows as they were.
use Rattle.std.proofs.Common.{◌≡◌, ◌≢◌, ℕ, List, [], ◌++◌, append-nil, ⊎_elim, refl, sym, ap, ◌∙◌, subst, Option, Some, None}
use Rattle.std.specs.Prelude.{◌↔◌, Result, Ok, Err, IfErr, OnErr}
use Rattle.inst_base.specs.declared.fault.Fault.{Fault}
use Rattle.inst_base.specs.declared.fault.Fault.TheVariants.{Memory}
use Rattle.inst_settings.specs.Settings.{HubSettings}
use Rattle.inst_command.specs.declared.ask.Ask.{Ask}
use Rattle.inst_command.specs.declared.outcome.Outcome.{Outcome}
use Rattle.inst_command.specs.declared.reply.Reply.{Reply}
use Rattle.inst_terms.specs.declared.terms.Terms.{Terms}
use Rattle.inst_command.specs.declared.place.Place.{Place}
use Rattle.inst_board.specs.declared.wish.Wish.{Wish}
use Rattle.inst_board.specs.declared.about.About.{About}
use Rattle.inst_board.specs.declared.about.About.TheVariants.{Opened, HasTerms, Due, Decided, DecidedAt}
use Rattle.inst_board.specs.declared.about.Fact.{Fact}
use Rattle.inst_board.specs.Standing.{Standing, unused, pending, decided, Says, about}
use Rattle.inst_board.specs.Laws.{KnowsOpening}
use Rattle.inst_board.specs.Learning.{KnowTheSame, AnswersWish}
use Rattle.inst_journal.specs.declared.event.Event.{Event}
use Rattle.inst_journal.specs.declared.handle.Handled.{Handled}
use Rattle.inst_journal.specs.Reply.{reply_result, kept_event, kept_events}
use Rattle.inst_slot.specs.Book.{Book}
use Rattle.inst_slot.specs.LawfulBoard.{LiesAt, IsLawfulBoard}
use Rattle.inst_slot.specs.Asking.{request, Finds, handle_ask, book_after, Opens, Enters, Settles}
use Rattle.inst_slot.specs.Telling.{booking}
use Rattle.inst_slot.proofs.BoardStaysLawful.{with_events, lying}
use Rattle.inst_slot.proofs.SlotMayDecideWhatIsAsked.{asked}

-- what holds whatever the answer is holds where it is an error
pub on_err : {T E : Type 0} (r : Result T E) (P : Type 0) → P → OnErr r P
on_err (Ok value) P p = tt
on_err (Err error) P p = p

pub on_error : (P : Fault → Type 0) (r : Result Reply Fault) → ((fault : Fault) → r ≡ Err fault → P fault) → IfErr r P
on_error P (Ok reply) all = tt
on_error P (Err fault) all = all fault refl

nothing_kept : (r : Result Handled Fault) (fault : Fault) → reply_result r ≡ Err fault → kept_events r ≡ []
nothing_kept (Ok handled) fault e = let no : ⊥ = cc in absurd no
nothing_kept (Err other) fault e = refl

as_it_was : (book : Book) (ask : Ask) (found : Option Outcome) (fault : Fault) → reply_result (handle_ask book ask found) ≡ Err fault → book_after book ask found ≡ book
as_it_was book ask found fault e =
    ap (λ (K : List Event). with_events book (book.events ++ K)) (nothing_kept (handle_ask book ask found) fault e) ∙ ap (λ (J : List Event). with_events book J) (append-nil book.events)

none_booked : (from : ℕ) (id : List ℕ) (found : Option Outcome) → kept_event (booking from id found) ≡ [] → found ≡ None
none_booked from id None e = refl
none_booked from id (Some o) e = let no : ⊥ = cc in absurd no

module _ {B : Type 0} (margin : ℕ) (knows : B → Fact → Type 0) (b c : B) (book : Book) where
  -- an ask that finds nothing and is refused leaves the book
  pub enters_left : (ask : Ask) (result : Result Reply Fault) (new : Book) → Enters margin knows b book ask result c new → OnErr result (new ≡ book)
  enters_left ask (Ok reply) new e = tt
  enters_left ask (Err fault) new e = ⊎_elim
      (λ answered. answered.1 ∙ as_it_was book ask None fault (sym answered.0))
      (λ refused. refused.1) e

  -- and what the board's holder knows
  pub enters_unknown : (ask : Ask) (result : Result Reply Fault) (new : Book) (fault : Fault) → Enters margin knows b book ask result c new → result ≡ Err fault → fault ≢ Memory → KnowTheSame knows b c
  enters_unknown ask result new fault e is other = ⊎_elim
      (λ answered.
      let same : c ≡ b = subst (λ (K : List Event). Opens margin knows book K b c) (nothing_kept (handle_ask book ask None) fault (sym answered.0 ∙ is)) answered.2 in
      λ f. subst (λ (x : B). knows x f ↔ knows b f) (sym same) (λ kn. kn, λ kn. kn))
      (λ refused. let same : fault ≡ Memory = cc in absurd (other same)) e

module _ {B : Type 0} (settings : B → HubSettings) (knows : B → Fact → Type 0) (has_role : B → ℕ → Type 0) (margin : ℕ) (b c : B) (book : Book) where
  module _ (stood : B → Place → Outcome → Type 0) (stays : B → B → Type 0) (was : IsLawfulBoard settings knows has_role b book) where
    pub settles_nothing : (ask : Ask) (k : Place × Wish) (result : Result Reply Fault) (new : Book) (fault : Fault) → Settles margin knows has_role stood stays b book ask k.0 k.1 result c new → result ≡ Err fault → new ≡ book
    settles_nothing ask k result new fault e is = ⊎_elim
        (λ answered. answered.2 ∙ as_it_was book ask answered.0 fault (sym answered.1 ∙ is))
        (λ refused. refused.1) e

    pub settles_left : (ask : Ask) (k : Place × Wish) (result : Result Reply Fault) (new : Book) → Settles margin knows has_role stood stays b book ask k.0 k.1 result c new → OnErr result (new ≡ book)
    settles_left ask k (Ok reply) new e = tt
    settles_left ask k (Err fault) new e = settles_nothing ask k (Err fault) new fault e refl

    -- what is true of a pending place was known
    pending_known : (k : Place) (t : Terms) (d : ℕ) (p : Standing) → KnowsOpening knows b k t d → ((a : About) → knows b (about k a) → Says p a) → (o : Option Outcome) (wish : Wish) (at : ℕ) (m : B) → AnswersWish margin (stood m k) wish at p o → o ≡ None
        → (a : About) → Says p a → knows b (about k a)
    pending_known k t d unused kn agrees o wish at m answers none a says = absurd answers
    pending_known k t d (pending u e) kn agrees o wish at m answers none Opened says = kn.opened
    pending_known k t d (pending u e) kn agrees o wish at m answers none (HasTerms v) says = subst (λ (x : Terms). knows b (about k (HasTerms x))) (agrees (HasTerms t) kn.terms ∙ sym says) kn.terms
    pending_known k t d (pending u e) kn agrees o wish at m answers none (Due v) says = subst (λ (x : ℕ). knows b (about k (Due x))) (agrees (Due d) kn.due ∙ sym says) kn.due
    pending_known k t d (pending u e) kn agrees o wish at m answers none (Decided v) says = absurd says
    pending_known k t d (pending u e) kn agrees o wish at m answers none (DecidedAt v) says = absurd says
    pending_known k t d (decided u e z n) kn agrees o wish at m answers none a says = let f = answers.0 in let no : ⊥ = cc in absurd no

    finds_unknown : (k : Place) (id : List ℕ) (wish : Wish) (at : ℕ) (found : Option Outcome) → LiesAt book k.owner id k.index → Finds margin knows has_role stood stays b k wish at found c → found ≡ None → KnowTheSame knows b c
    finds_unknown k id wish at found lies f none =
        let lain = lying settings knows has_role b book k.owner id k.index was lies in
        let l = f.decides.learns in
        let known = pending_known k lain.terms lain.deadline f.decides.standing lain.known (λ a kn. l.agrees a (f.looks.learns.kept (about k a) kn)) found wish at f.between f.decides.answers none in
        let here = λ (g : Fact) (at_k : g.place ≡ k) (says : Says f.decides.standing g.about). subst (λ (x : Place). knows b (about x g.about)) (sym at_k) (known g.about says) in
        λ g. (
          λ kn. ⊎_elim
              (λ seen. ⊎_elim
              (λ old. old)
              (λ new. here g new.0 (l.agrees g.about (subst (λ (x : Place). knows f.between (about x g.about)) new.0 seen)))
              (f.looks.learns.only g seen))
              (λ new. here g new.0 new.1)
              (l.only g kn),
          λ kn. l.kept g (f.looks.learns.kept g kn),
        )

    pub settles_unknown : (ask : Ask) (k : Place × Wish) (result : Result Reply Fault) (new : Book) (fault : Fault) → request book ask.command ≡ Some k
        → Settles margin knows has_role stood stays b book ask k.0 k.1 result c new → result ≡ Err fault → fault ≢ Memory → KnowTheSame knows b c
    settles_unknown ask k result new fault e s is other = ⊎_elim
        (λ answered.
        let a = asked settings knows has_role b book ask.command k was e in
        let none = none_booked k.0.owner a.id answered.0 (sym (a.kept ask.at answered.0) ∙ nothing_kept (handle_ask book ask answered.0) fault (sym answered.1 ∙ is)) in
        finds_unknown k.0 a.id k.1 ask.at answered.0 a.lies answered.3 none)
        (λ refused. let same : fault ≡ Memory = cc in absurd (other same)) s
