-- The books of the other participants over the same board stay what they are to it.
use Rattle.std.proofs.Common.{◌≡◌, ◌≢◌, ℕ, Bool, true, false, cond, List, [], ◌∷◌, inl, inr, ◌⊎◌, ⊎_elim, refl, sym, ap, ◌∙◌, subst, Option, Some, None}
use Rattle.std.specs.Prelude.{Result, ◌↔◌}
use Rattle.std.specs.declared.alloc.AllocError.{AllocError}
use Rattle.inst_base.specs.TimeLimit.{deadline_of, is_due}
use Rattle.inst_base.specs.declared.fault.Fault.{Fault}
use Rattle.inst_settings.specs.Settings.{HubSettings}
use Rattle.inst_command.specs.declared.ask.Ask.{Ask}
use Rattle.inst_command.specs.declared.outcome.Outcome.{Outcome}
use Rattle.inst_command.specs.declared.outcome.Outcome.TheVariants.{TimedOut}
use Rattle.inst_command.specs.declared.reply.Reply.{Reply}
use Rattle.inst_terms.specs.declared.terms.Terms.{Terms}
use Rattle.inst_command.specs.declared.place.Place.{Place}
use Rattle.inst_board.specs.declared.wish.Wish.{Wish}
use Rattle.inst_board.specs.declared.wish.Wish.TheVariants.{Accept, Reject, Expire}
use Rattle.inst_board.specs.declared.look.Look.{Look}
use Rattle.inst_board.specs.declared.about.About.TheVariants.{Opened, HasTerms, Due, Decided}
use Rattle.inst_board.specs.declared.about.Fact.{Fact}
use Rattle.inst_board.specs.Standing.{Standing, unused, pending, decided, Says, about}
use Rattle.inst_board.specs.Learning.{Learns, Looks, Decides, IsParty, AnswersWish, IsAnswer, MayDecide}
use Rattle.inst_board.specs.Wish.{wanted}
use Rattle.inst_journal.specs.declared.event.Event.{Event}
use Rattle.inst_journal.specs.declared.event.Event.TheVariants.{Funded, Defunded, Taken, Forwarded, Booked, Fetched, Opened as OpenedEvent}
use Rattle.inst_journal.specs.Opened.{live_submissions}
use Rattle.inst_journal.specs.Reply.{kept_events}
use Rattle.inst_slot.specs.Book.{Book, place_at, terms_to}
use Rattle.inst_slot.specs.LawfulBoard.{IsLawfulBoard, KeepsOthers}
use Rattle.inst_slot.specs.Asking.{request, Finds, handle_ask, Opens, Enters, Settles}
use Rattle.inst_slot.specs.Telling.{unbooked_at, ExpiresFor}
use Rattle.inst_slot.proofs.BoardStaysLawful.{moved, same_transfers, learnt_own, learnt_truly, learnt_answer}
use Rattle.inst_slot.proofs.EffectOfLookAndDecision.{looked_on}
use Rattle.inst_slot.proofs.SlotMayDecideWhatIsAsked.{asked, may_expire}
use Rattle.inst_slot.proofs.DecisionKeepsLawfulBoard.{unbooked_is}

no_answer : (o : Outcome) → IsAnswer o → o ≡ TimedOut → ⊥
no_answer o answer e = subst IsAnswer e answer

expiry_answers_nothing : (due : Bool) (o : Outcome) → IsAnswer o → cond due (Some TimedOut) None ≡ Some o → ⊥
expiry_answers_nothing true o answer e = let same : o ≡ TimedOut = cc in no_answer o answer same
expiry_answers_nothing false o answer e = let no : ⊥ = cc in no

module _ {B : Type 0} (settings : B → HubSettings) (knows : B → Fact → Type 0) (has_role : B → ℕ → Type 0) (margin : ℕ) (stood : B → Place → Outcome → Type 0) (stays : B → B → Type 0)
    (stays_settings : (a b : B) → stays a b → settings b ≡ settings a) (stays_roles : (a b : B) (p : ℕ) → stays a b → has_role a p ↔ has_role b p)
    (seldom : (b : B) (k : Place) (t : Terms) (o : Outcome) → knows b (about k (HasTerms t)) → has_role b t.to → stood b k o → knows b (about k (Decided o)) ⊎ (o ≡ TimedOut)) where
  -- an outcome that stood, or was wanted by an expiry or by another, is no new answer of this participant's
  old_answer : (m c : B) (k : Place) (wish : Wish) (at : ℕ) (found : Option Outcome) (may : MayDecide knows has_role m k wish) (who : ℕ) → (wish ≡ Expire) ⊎ (may.terms.to ≡ who)
      → (p : Standing) → Learns margin knows m k p c → AnswersWish margin (stood m k) wish at p found → (other : ℕ) → other ≢ who → has_role m other → (t : Terms) (o : Outcome) → t.to ≡ other → IsAnswer o
      → Says p (HasTerms t) → Says p (Decided o) → knows m (about k (HasTerms t)) × knows m (about k (Decided o))
  old_answer m c k wish at found may who mine unused l answers other ne role t o to answer says ended = absurd says
  old_answer m c k wish at found may who mine (pending u d) l answers other ne role t o to answer says ended = absurd ended
  old_answer m c k wish at found may who mine (decided u d z n) l answers other ne role t o to answer says ended =
      let same : may.terms ≡ t = l.agrees (HasTerms may.terms) may.has_terms ∙ sym says in
      let told = subst (λ (x : Terms). knows m (about k (HasTerms x))) same may.has_terms in (
        told,
        ⊎_elim
            (λ before. ⊎_elim (λ kn. kn) (λ late. absurd (no_answer o answer late))
            (seldom m k t o told (subst (λ (n : ℕ). has_role m n) (sym to) role) (subst (λ (x : Outcome). stood m k x) (sym ended) before)))
            (λ want. ⊎_elim
            (λ expiry. absurd (expiry_answers_nothing (is_due d at) o answer (subst (λ (x : Wish). wanted margin x d at ≡ Some o) expiry (want.0 ∙ ap (λ (x : Outcome). Some x) (sym ended)))))
            (λ own. absurd (ne (sym to ∙ ap (λ (x : Terms). x.to) (sym same) ∙ own)))
            mine)
            answers.1,
      )

  others_decide : (m c : B) (k : Place) (wish : Wish) (at : ℕ) (found : Option Outcome) (who : ℕ) (may : MayDecide knows has_role m k wish) → (wish ≡ Expire) ⊎ (may.terms.to ≡ who)
      → settings c ≡ settings m → margin ≡ (settings m).margin → ((p : ℕ) → has_role m p → has_role c p) → Decides margin knows stood m k wish at found c → KeepsOthers settings knows has_role m who c
  others_decide m c k wish at found who may mine same margins role h book ne was = moved settings knows has_role m c book book.events same (learnt_truly settings knows has_role margin m c k h.standing h.learns book margins was) (role book.who) h.learns.kept
      (learnt_own settings knows has_role margin m c k h.standing h.learns book.who (λ own says. may.opened))
      (same_transfers book.who book.events)
      (λ from id o e. inl e)
      (λ j t o to answer kt kd. ⊎_elim
      (λ old. was.answered j t o to answer old.0 old.1)
      (λ new.
      let before = old_answer m c k wish at found may who mine h.standing h.learns h.answers book.who ne was.role t o to answer new.1 new.2 in
      let here = subst (λ (x : Place). knows m (about x (HasTerms t)) × knows m (about x (Decided o))) (sym new.0) before in
      was.answered j t o to answer here.0 here.1)
      (learnt_answer settings knows has_role margin m c k h.standing h.learns j t o kt kd))
      was

  kept_may : (b m : B) (k : Place) (wish : Wish) → ((f : Fact) → knows b f → knows m f) → (may : MayDecide knows has_role b k wish) → ((p : ℕ) → has_role b p → has_role m p) → MayDecide knows has_role m k wish
  kept_may b m k wish kept may role = record {
    terms = may.terms;
    deadline = may.deadline;
    opened = kept (about k Opened) may.opened;
    has_terms = kept (about k (HasTerms may.terms)) may.has_terms;
    due = kept (about k (Due may.deadline)) may.due;
    party = party wish may.party;
  }
    where
      party : (w : Wish) → IsParty (has_role b) w k may.terms → IsParty (has_role m) w k may.terms
      party Accept p = role may.terms.to p
      party (Reject reason) p = role may.terms.to p
      party Expire p = ⊎_elim (λ own. inl (role k.owner own)) (λ to. inr (role may.terms.to to)) p

  module _ (b c : B) (same_holder : stays b c) (fits : margin ≡ (settings b).margin) where
    pub others_look : (k : Place) (look : Look) (who : ℕ) → Looks margin knows has_role stood b k look c → KeepsOthers settings knows has_role b who c
    others_look k look who h book ne was = looked_on settings knows has_role margin stood b c k look h book (stays_settings b c same_holder) fits (λ r. (stays_roles b c book.who same_holder).0 r) was

    others_find : (k : Place) (wish : Wish) (at : ℕ) (found : Option Outcome) (who : ℕ) (may : MayDecide knows has_role b k wish) → (wish ≡ Expire) ⊎ (may.terms.to ≡ who)
        → Finds margin knows has_role stood stays b k wish at found c → KeepsOthers settings knows has_role b who c
    unfolding kept_may
    others_find k wish at found who may mine f book ne was =
        let m = f.between in
        let roles = λ (p : ℕ) (r : has_role b p). (stays_roles b m p f.same_holder).0 r in
        let back = λ (p : ℕ) (r : has_role m p). (stays_roles b c p same_holder).0 ((stays_roles b m p f.same_holder).1 r) in
        let seen = looked_on settings knows has_role margin stood b m k f.look f.looks book (stays_settings b m f.same_holder) fits (roles book.who) was in
        others_decide m c k wish at found who (kept_may b m k wish f.looks.learns.kept may roles) mine (stays_settings b c same_holder ∙ sym (stays_settings b m f.same_holder)) (fits ∙ ap (λ (s : HubSettings). s.margin) (sym (stays_settings b m f.same_holder))) back f.decides book ne seen

    pub others_settle : (book : Book) (ask : Ask) (k : Place × Wish) (result : Result Reply Fault) (new : Book) → IsLawfulBoard settings knows has_role b book → request book ask.command ≡ Some k
        → Settles margin knows has_role stood stays b book ask k.0 k.1 result c new → KeepsOthers settings knows has_role b book.who c
    others_settle book ask k result new own e s = ⊎_elim
        (λ answered.
        let a = asked settings knows has_role b book ask.command k own e in
        others_find k.0 k.1 ask.at answered.0 book.who a.may a.mine answered.3)
        (λ refused. others_look k.0 refused.2.look book.who refused.2.looks) s

    pub others_expire : (book : Book) (index at : ℕ) (id : List ℕ) (result : Result Bool AllocError) (new : Book) → IsLawfulBoard settings knows has_role b book → unbooked_at book index ≡ Some id
        → ExpiresFor margin knows has_role stood stays b book index at (Some id) result c new → KeepsOthers settings knows has_role b book.who c
    others_expire book index at id result new own e s = ⊎_elim
        (λ answered.
        let u = unbooked_is book index id e in
        others_find (place_at book.who index) Expire at answered.0 book.who (may_expire settings knows has_role b book id index own u.at) (inl refl) answered.3)
        (λ refused. others_look (place_at book.who index) refused.2.look book.who refused.2.looks) s

    -- a place of this participant's is opened
    pub others_opening : (k : Place) (t : Terms) (d : ℕ) (who : ℕ) → k.owner ≡ who → Learns margin knows b k (pending t d) c → KeepsOthers settings knows has_role b who c
    others_opening k t d who owner l other ne was = moved settings knows has_role b c other other.events (stays_settings b c same_holder)
        (learnt_truly settings knows has_role margin b c k (pending t d) l other fits was) (λ r. (stays_roles b c other.who same_holder).0 r) l.kept
        (learnt_own settings knows has_role margin b c k (pending t d) l other.who (λ own says. absurd (ne (sym own ∙ owner))))
        (same_transfers other.who other.events)
        (λ from name o e. inl e)
        (λ j u o mine answer kt kd. ⊎_elim
        (λ old. was.answered j u o mine answer old.0 old.1)
        (λ new. absurd new.2)
        (learnt_answer settings knows has_role margin b c k (pending t d) l j u o kt kd))
        was

    others_open : (book : Book) (K : List Event) → Opens margin knows book K b c → KeepsOthers settings knows has_role b book.who c
    others_open book (Taken id to cents stamp ∷ K) l other ne was =
        others_opening (place_at book.who (live_submissions book.who book.events)) (terms_to to cents id) (deadline_of book.settings.limit stamp) book.who refl l other ne was
    others_open book [] l other ne was = subst (λ (x : B). IsLawfulBoard settings knows has_role x other) (sym l) was
    others_open book (Funded funding ∷ K) l other ne was = subst (λ (x : B). IsLawfulBoard settings knows has_role x other) (sym l) was
    others_open book (Defunded funding ∷ K) l other ne was = subst (λ (x : B). IsLawfulBoard settings knows has_role x other) (sym l) was
    others_open book (Forwarded from id cents d ∷ K) l other ne was = subst (λ (x : B). IsLawfulBoard settings knows has_role x other) (sym l) was
    others_open book (Booked from id o ∷ K) l other ne was = subst (λ (x : B). IsLawfulBoard settings knows has_role x other) (sym l) was
    others_open book (Fetched n ∷ K) l other ne was = subst (λ (x : B). IsLawfulBoard settings knows has_role x other) (sym l) was
    others_open book (OpenedEvent ∷ K) l other ne was = subst (λ (x : B). IsLawfulBoard settings knows has_role x other) (sym l) was

    pub others_enter : (book : Book) (ask : Ask) (result : Result Reply Fault) (new : Book) → Enters margin knows b book ask result c new → KeepsOthers settings knows has_role b book.who c
    others_enter book ask result new e other ne was = ⊎_elim
        (λ answered. others_open book (kept_events (handle_ask book ask None)) answered.2 other ne was)
        (λ refused. subst (λ (x : B). IsLawfulBoard settings knows has_role x other) (sym refused.2) was) e
