-- The replies to a participant are made from its view alone.
use Rattle.std.proofs.Common.{◌≡◌, ℕ, Bool, true, false, cond, eqb, List, [], ◌∷◌, ◌++◌, refl, sym, ap, ◌∙◌}
use Rattle.std.proofs.lemmas.Bool.{eqb-true}
use Rattle.inst_model.specs.Opening.{Opening, beginning}
use Rattle.inst_settings.specs.Settings.{HubSettings}
use Rattle.inst_command.specs.declared.step.Step.{Step}
use Rattle.inst_command.specs.declared.step.Step.TheVariants.{Ask, Deliver, Learn, Expire}
use Rattle.inst_command.specs.declared.reply.Answer.{Answer}
use Rattle.inst_command.specs.declared.reply.Answer.TheVariants.{Reply}
use Rattle.inst_journal.specs.declared.event.Event.{Event}
use Rattle.inst_journal.specs.Money.{reserved, position, available}
use Rattle.inst_journal.specs.Reply.{reply}
use Rattle.inst_journal.specs.Statement.{statement}
use Rattle.inst_model.specs.Found.{found}
use Rattle.inst_model.specs.View.{Seen, sees}
use Rattle.inst_model.specs.View.Seen.{Asked, Came, Told}
use Rattle.inst_model.specs.Kept.{events_of_entry, with_entries}
use Rattle.inst_model.specs.Hub.{decided, view, outcome, history}
use Rattle.inst_model.specs.Trace.{as_reply, answer, own_answer, replies}
use Rattle.inst_model.specs.Isolation.{EqualViewsGiveEqualReplies}
use Rattle.inst_model.proofs.Steps.{sees_cases}

-- the replies that entries are given on the history J of p
abbrev replies_on : HubSettings → ℕ → List Event → List Seen → List Answer
replies_on s p J [] = []
replies_on s p J (Asked command at found ∷ view) =
    Reply (as_reply (reply s p J command at found)) ∷ replies_on s p (J ++ events_of_entry s p J (Asked command at found)) view
replies_on s p J (Came from id cents deadline ∷ view) = replies_on s p (J ++ events_of_entry s p J (Came from id cents deadline)) view
replies_on s p J (Told from id o ∷ view) = replies_on s p (J ++ events_of_entry s p J (Told from id o)) view

replies_on-append : (s : HubSettings) (p : ℕ) (J : List Event) (v w : List Seen) → replies_on s p J (v ++ w) ≡ replies_on s p J v ++ replies_on s p (with_entries s p J v) w
replies_on-append s p J [] w = refl
replies_on-append s p J (Asked command at found ∷ v) w =
    ap (λ rest. Reply (as_reply (reply s p J command at found)) ∷ rest) (replies_on-append s p (J ++ events_of_entry s p J (Asked command at found)) v w)
replies_on-append s p J (Came from id cents deadline ∷ v) w = replies_on-append s p (J ++ events_of_entry s p J (Came from id cents deadline)) v w
replies_on-append s p J (Told from id o ∷ v) w = replies_on-append s p (J ++ events_of_entry s p J (Told from id o)) v w

own_is : (s : HubSettings) (O : Opening) (past : List Step) (step : Step) (p : ℕ) → own_answer s O past step p ≡ replies_on s p (history s O past p) (sees s (history s O past) (outcome s O past) (decided s (history s O past) (outcome s O past) step) step p)
own_is s O past (Ask ask) p = at_ask (eqb ask.who p) refl
  where
    at_ask : (b : Bool) → eqb ask.who p ≡ b →
        cond b (answer s O past (Ask ask) ∷ []) []
        ≡ replies_on s p (history s O past p) (cond b (Asked ask.command ask.at (found (outcome s O (Ask ask ∷ past)) p (history s O past p) ask.command) ∷ []) [])
    at_ask false e = refl
    at_ask true e =
        ap (λ (q : ℕ). Reply (as_reply (reply s q (history s O past q) ask.command ask.at (found (outcome s O (Ask ask ∷ past)) q (history s O past q) ask.command))) ∷ [])
        (eqb-true ask.who p e)
own_is s O past (Deliver from index to) p =
    sees_cases s (history s O past) (outcome s O past) (Deliver from index to) p (λ v. [] ≡ replies_on s p (history s O past p) v)
    (record { nothing = refl; asked = λ ask is who. cc; came = λ from index x is why. refl; told = λ from index x o why. refl })
own_is s O past (Learn who from index) p =
    sees_cases s (history s O past) (outcome s O past) (Learn who from index) p (λ v. [] ≡ replies_on s p (history s O past p) v)
    (record { nothing = refl; asked = λ ask is who. cc; came = λ from index x is why. refl; told = λ from index x o why. refl })
own_is s O past (Expire who index at) p =
    sees_cases s (history s O past) (outcome s O past) (Expire who index at) p (λ v. [] ≡ replies_on s p (history s O past p) v)
    (record { nothing = refl; asked = λ ask is who. cc; came = λ from index x is why. refl; told = λ from index x o why. refl })

replies_from_view : (s : HubSettings) (O : Opening) (L : List Step) (p : ℕ) → replies s O L p ≡ replies_on s p (beginning O p) (view s O L p)
replies_from_view s O [] p = refl
replies_from_view s O (step ∷ past) p =
    ap (λ front. front ++ own_answer s O past step p) (replies_from_view s O past p)
    ∙ ap (λ last. replies_on s p (beginning O p) (view s O past p) ++ last) (own_is s O past step p)
    ∙ sym (replies_on-append s p (beginning O p) (view s O past p) (sees s (history s O past) (outcome s O past) (decided s (history s O past) (outcome s O past) step) step p))

same_from : {A : Type 0} (f : List Event → List Seen → A) (J K : List Event) (v w : List Seen) → J ≡ K → v ≡ w → f J v ≡ f K w
same_from f J K v w e same = ap (λ H. f H v) e ∙ ap (f K) same

pub isolated : EqualViewsGiveEqualReplies
isolated s O P L M p begun same = record {
  same_replies = replies_from_view s O L p ∙ same_from (replies_on s p) (beginning O p) (beginning P p) (view s O L p) (view s P M p) begun same ∙ sym (replies_from_view s P M p);
  same_history = whole;
  same_position = ap position whole;
  same_reserved = ap reserved whole;
  same_available = ap available whole;
  same_statement = ap statement whole;
}
  where
    whole : history s O L p ≡ history s P M p
    whole = same_from (with_entries s p) (beginning O p) (beginning P p) (view s O L p) (view s P M p) begun same
