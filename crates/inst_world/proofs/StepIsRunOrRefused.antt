-- What a call of one slot makes of its world: the step was run, and answered as the model answers it; or it was refused
-- memory that it needs, and nothing changed.
use Rattle.std.proofs.Common.{◌≡◌, ℕ, Bool, true, false, List, ◌∷◌, set, Option, Some, None, is_some, Result, Ok, Err, refl, sym, ap, subst, ◌∙◌, inl, inr}
use Rattle.std.proofs.lemmas.Bool.{and_parts}
use Rattle.std.specs.Cmp.Derive.{both_true}
use Rattle.std.specs.Prelude.{alloc_error, IsErrAnd}
use Rattle.std.specs.declared.alloc.AllocError.{AllocError}
use Rattle.inst_base.specs.declared.fault.Fault.{Fault}
use Rattle.inst_base.specs.declared.fault.Fault.TheVariants.{Memory}
use Rattle.inst_settings.specs.Settings.{HubSettings, is_participant}
use Rattle.inst_settings.specs.Lawful.{IsSettings}
use Rattle.inst_command.specs.Ask.{command_fits, ask_fits}
use Rattle.inst_command.specs.Step.{step_fits}
use Rattle.inst_command.specs.declared.ask.Ask.{Ask as AskValue}
use Rattle.inst_command.specs.declared.outcome.Outcome.{Outcome}
use Rattle.inst_command.specs.declared.reply.Answer.{Answer}
use Rattle.inst_command.specs.declared.reply.Answer.TheVariants.{Reply, New}
use Rattle.inst_command.specs.declared.reply.Reply.{Reply as ReplyValue}
use Rattle.inst_command.specs.declared.step.Step.{Step}
use Rattle.inst_command.specs.declared.step.Step.TheVariants.{Ask, Deliver, Learn, Expire}
use Rattle.inst_journal.specs.declared.event.Event.{Event}
use Rattle.inst_journal.specs.Reply.{handle, reply_result}
use Rattle.inst_command.specs.declared.place.Place.{Place}
use Rattle.inst_board.specs.declared.look.Look.{Look}
use Rattle.inst_board.specs.declared.wish.Wish.{Wish}
use Rattle.inst_board.specs.Learning.{Looks}
use Rattle.inst_board.specs.Plain.{Contents, plain_knows, plain_stood}
use Rattle.inst_model.specs.Opening.{Opening}
use Rattle.inst_model.specs.Found.{found}
use Rattle.inst_model.specs.Trace.{answer, is_seen}
use Rattle.inst_model.specs.Hub.{history, outcome}
use Rattle.inst_slot.specs.Book.{Book, place_at}
use Rattle.inst_slot.specs.Asking.{decides, request, AppliesTo, Applies}
use Rattle.inst_slot.specs.Telling.{delivery, with_delivery, resolution, with_event, Keeps, Expires, ExpiresFor}
use Rattle.inst_world.specs.HasRun.{World, world_settings, IsWorld, HasRun, HasRunSomething, Runs, TakesMemory, NeedsMemory}
use Rattle.inst_world.specs.inner.Stepping.{RunsOrNeedsMemory}
use Rattle.inst_world.proofs.PlaceOfKnownTransfer.{IsTheSame, looked}
use Rattle.inst_world.proofs.PlacesOfLiveTransfers.{actor}
use Rattle.inst_world.proofs.DeliveryAndResolutionFollowModel.{RanOrNot, board_looked, delivers_run, learns_run}
use Rattle.inst_world.proofs.ExpiryFollowsModel.{expires_run}
use Rattle.inst_world.proofs.AskThatDecidesNothing.{never_memory}
use Rattle.inst_world.proofs.AskFollowsModel.{applies_run}
use Rattle.inst_world.proofs.HubRunAfterStep.{goes_on}
use Rattle.inst_world.proofs.BooksAsOneSlotActs.{LeadsTo, has_run, as_before}
use Rattle.inst_command.specs.Refusals.{refusals_told}
use Rattle.inst_model.proofs.Refusals.{as_told, told_memory}

-- what is true of each world, with these settings of its own
abbrev pub IsKept : HubSettings → World → Type 0
IsKept own world = IsWorld world × (world.board.settings ≡ own) × IsSettings world.board.settings × HasRunSomething world

-- it stays true by a step from a world that a contract saw so
pub still_kept : {A : Type 0} (told : A → Answer) (own : HubSettings) (old seen new : World) (step : Step) (result : Result A AllocError) → IsKept own old → old ≡ seen → IsWorld new
    → RunsOrNeedsMemory told seen step result new → IsKept own new
still_kept told own old seen new step result kept saw whole ran =
    let was = subst (IsKept own) saw kept in
    (whole, ran.settings ∙ was.1, subst IsSettings (sym ran.settings) was.2, goes_on told seen new step result was.3 ran)

-- who asks what fits is a participant
pub asker : (s : HubSettings) (ask : AskValue) → ask_fits s ask ≡ true → is_participant s ask.who ≡ true
asker s ask fits = (and_parts (is_participant s ask.who) (command_fits s ask.command) fits).0

-- memory was refused to a delivery or a resolution
kept_refused : (b c : Contents) (place : Place) (look : Look) (is_new : Bool) (slot after new : Book) (result : Result Bool AllocError) (margin : ℕ)
    → Looks margin plain_knows (λ _ _. Unit {0}) plain_stood b place look c → Keeps is_new slot after result new → (e : AllocError) → result ≡ Err e → (new ≡ slot) × IsTheSame b c
kept_refused b c place look is_new slot after new result margin looks keeps e is = elim keeps [
  | inl kept ↦ let f : Err e ≡ Ok is_new = sym is ∙ kept.0 in let no : ⊥ = cc in absurd no
  | inr refused ↦ (refused.1, board_looked b c place (looked margin b c place look looks).1)
]

expiry_refused : (margin : ℕ) (stays : Contents → Contents → Type 0) (b c : Contents) (slot new : Book) (index at : ℕ) (id : Option (List ℕ)) (result : Result Bool AllocError)
    → ExpiresFor margin plain_knows (λ _ _. Unit {0}) plain_stood stays b slot index at id result c new → (e : AllocError) → result ≡ Err e → (new ≡ slot) × IsTheSame b c
expiry_refused margin stays b c slot new index at None result did e is = let f : Err e ≡ Ok false = sym is ∙ did.0 in let no : ⊥ = cc in absurd no
expiry_refused margin stays b c slot new index at (Some id) result did e is = elim did [
  | inl done ↦ let f : Err e ≡ Ok (is_some done.0) = sym is ∙ done.1 in let no : ⊥ = cc in absurd no
  | inr refused ↦
      let k : Place = place_at slot.who index in
      (refused.1, board_looked b c k (looked margin b c k refused.2.look refused.2.looks).1)
]

ask_refused : (margin : ℕ) (stays : Contents → Contents → Type 0) (b c : Contents) (slot new : Book) (ask : AskValue) (asked : Option (Place × Wish)) (result : Result ReplyValue Fault)
    → AppliesTo margin plain_knows (λ _ _. Unit {0}) plain_stood stays b slot ask asked result c new → result ≡ Err Memory → (new ≡ slot) × IsTheSame b c
ask_refused margin stays b c slot new ask None result did is = elim did [
  | inl done ↦ absurd (never_memory slot.settings slot.who slot.events ask.command ask.at None (sym done.0 ∙ is))
  | inr refused ↦ (refused.1, subst (λ (d : Contents). IsTheSame b d) (sym refused.2) (λ j a. (λ h. h, λ h. h)))
]
ask_refused margin stays b c slot new ask (Some asked) result did is = elim did [
  | inl done ↦ absurd (never_memory slot.settings slot.who slot.events ask.command ask.at done.0 (sym done.1 ∙ is))
  | inr refused ↦ (refused.1, board_looked b c asked.0 (looked margin b c asked.0 refused.2.look refused.2.looks).1)
]

-- the slot at i was called over the board b, in a world that a contract saw so
module _ (books : List Book) (b c : Contents) (i : ℕ) (slot new : Book) (seen : World) (saw : record { books = books; board = b } ≡ seen) (stays : c.settings ≡ b.settings) where
  abbrev before : World
  before = record { books = books; board = b }

  abbrev after : World
  after = record { books = set books i new; board = c }

  -- a step that is answered by whether there is something new
  module _ (step : Step) (leads : LeadsTo before (actor step) i slot) (fits : step_fits (world_settings seen) step ≡ true)
      (answers : (O : Opening) (L : List Step) → New (is_seen b.settings O L step (actor step)) ≡ answer b.settings O L step)
      (needs : (O : Opening) (L : List Step) → is_seen b.settings O L step (actor step) ≡ true → NeedsMemory b.settings O L step) where
    fits_here : step_fits b.settings step ≡ true
    fits_here = ap (λ (w : World). step_fits (world_settings w) step) saw ∙ fits

    here : (result : Result Bool AllocError) → ((O : Opening) (L : List Step) → HasRun O L before → RanOrNot b.settings O step L slot result new c)
        → ((e : AllocError) → result ≡ Err e → (new ≡ slot) × IsTheSame b c) → RunsOrNeedsMemory (λ (is_new : Bool). New is_new) before step result after
    here (Ok x) ran back = record {
      ok = λ O L was. elim (ran O L was) [
        | inl done ↦
            let told_so : ◌≡◌ {A = Result Bool AllocError} (Ok x) (Ok (is_seen b.settings O L step (actor step))) = done.0 in
            let same : x ≡ is_seen b.settings O L step (actor step) = cc in
            (ap (λ (y : Bool). New y) same ∙ answers O L, has_run books b c i slot new O L step was leads stays fits_here done.1)
        | inr refused ↦ let e : Ok x ≡ Err alloc_error = refused.0 in let no : ⊥ = cc in absurd no
      ];
      err = tt;
      memory = tt;
      settings = stays;
    }
    here (Err e) ran back = record {
      ok = tt;
      err = let same = back e refl in as_before books b c (actor step) i slot new leads stays same.0 same.1;
      memory = λ O L was. elim (ran O L was) [
        | inl done ↦ let f : Err e ≡ Ok (is_seen b.settings O L step (actor step)) = done.0 in let no : ⊥ = cc in absurd no
        | inr refused ↦ needs O L refused.3
      ];
      settings = stays;
    }

    tells : (result : Result Bool AllocError) → ((O : Opening) (L : List Step) → HasRun O L before → RanOrNot b.settings O step L slot result new c)
        → ((e : AllocError) → result ≡ Err e → (new ≡ slot) × IsTheSame b c) → RunsOrNeedsMemory (λ (is_new : Bool). New is_new) seen step result after
    tells result ran back = subst (λ (w : World). RunsOrNeedsMemory (λ (is_new : Bool). New is_new) w step result after) saw (here result ran back)

  pub delivered : (place : Place) (to : ℕ) → LeadsTo before to i slot → (is_participant (world_settings seen) place.owner ≡ true) × (is_participant (world_settings seen) to ≡ true)
      → (look : Look) (result : Result Bool AllocError) → Looks b.settings.margin plain_knows (λ _ _. Unit {0}) plain_stood b place look c
      → Keeps (is_some (delivery slot place look)) slot (with_delivery slot place (delivery slot place look)) result new
      → RunsOrNeedsMemory (λ (is_new : Bool). New is_new) seen (Deliver place.owner place.index to) result after
  delivered place to leads are look result looks keeps =
      tells (Deliver place.owner place.index to) leads (both_true are.0 are.1) (λ O L. refl) (λ O L some. ap (λ (x : Bool). New x) some) result
      (λ O L was. delivers_run b.settings O was.opening L was.steps b was.board to slot leads.member (was.histories to slot leads.there) b.settings.margin place.owner place.index look c result new looks keeps)
      (kept_refused b c place look (is_some (delivery slot place look)) slot (with_delivery slot place (delivery slot place look)) new result b.settings.margin looks keeps)

  pub learnt : (who : ℕ) (place : Place) → LeadsTo before who i slot → (is_participant (world_settings seen) who ≡ true) × (is_participant (world_settings seen) place.owner ≡ true)
      → (look : Look) (result : Result Bool AllocError) → Looks b.settings.margin plain_knows (λ _ _. Unit {0}) plain_stood b place look c
      → Keeps (is_some (resolution slot place look)) slot (with_event slot (resolution slot place look)) result new
      → RunsOrNeedsMemory (λ (is_new : Bool). New is_new) seen (Learn who place.owner place.index) result after
  learnt who place leads are look result looks keeps =
      tells (Learn who place.owner place.index) leads (both_true are.0 are.1) (λ O L. refl) (λ O L some. ap (λ (x : Bool). New x) some) result
      (λ O L was. learns_run b.settings O was.opening L was.steps b was.board who slot leads.member (was.histories who slot leads.there) b.settings.margin place.owner place.index look c result new looks keeps)
      (kept_refused b c place look (is_some (resolution slot place look)) slot (with_event slot (resolution slot place look)) new result b.settings.margin looks keeps)

  pub expired : (who index at : ℕ) (stays_as : Contents → Contents → Type 0) → LeadsTo before who i slot → is_participant (world_settings seen) who ≡ true
      → (result : Result Bool AllocError) → Expires b.settings.margin plain_knows (λ _ _. Unit {0}) plain_stood stays_as b slot index at result c new
      → RunsOrNeedsMemory (λ (is_new : Bool). New is_new) seen (Expire who index at) result after
  expired who index at stays_as leads is result did =
      tells (Expire who index at) leads is (λ O L. refl) (λ O L some. ap (λ (x : Bool). New x) some) result
      (λ O L was. expires_run b.settings O was.opening L was.steps b was.board who index at slot leads.member (was.histories who slot leads.there) b.settings.margin stays_as c result new did)
      (expiry_refused b.settings.margin stays_as b c slot new index at _ result did)

  pub asked : (ask : AskValue) (x : Result ReplyValue Fault) (result : Result ReplyValue AllocError) (stays_as : Contents → Contents → Type 0) → LeadsTo before ask.who i slot → ask_fits (world_settings seen) ask ≡ true
      → is_some (request slot ask.command) ≡ decides slot ask.command → Applies b.settings.margin plain_knows (λ _ _. Unit {0}) plain_stood stays_as b slot ask x c new → result ≡ refusals_told x
      → RunsOrNeedsMemory (λ (reply : ReplyValue). Reply reply) seen (Ask ask) result after
  asked ask x result stays_as leads fits decided did told_is = subst (λ (w : World). RunsOrNeedsMemory (λ (reply : ReplyValue). Reply reply) w (Ask ask) result after) saw (of_slot result told_is)
    where
      fits_so : step_fits b.settings (Ask ask) ≡ true
      fits_so = ap (λ (w : World). ask_fits (world_settings w) ask) saw ∙ fits

      of_slot : (r : Result ReplyValue AllocError) → r ≡ refusals_told x → RunsOrNeedsMemory (λ (reply : ReplyValue). Reply reply) before (Ask ask) r after
      of_slot (Ok reply) is = record {
        ok = λ O L was. elim (applies_run b.settings O was.opening L was.steps b was.board ask slot leads.member (was.histories ask.who slot leads.there) b.settings.margin stays_as c x new refl decided did) [
          | inl done ↦
              let J : List Event = history b.settings O L ask.who in
              let f : Option Outcome = found (outcome b.settings O (Ask ask ∷ L)) ask.who J ask.command in
              let told_as : refusals_told (reply_result (handle b.settings ask.who J ask.command ask.at f)) ≡ Ok reply = ap refusals_told (sym done.0) ∙ sym is in (
                ap (λ (y : ReplyValue). Reply y) (as_told (reply_result (handle b.settings ask.who J ask.command ask.at f)) reply told_as).1,
                has_run books b c i slot new O L (Ask ask) was leads stays fits_so done.1,
              )
          | inr refused ↦
              let e : Ok reply ≡ Err alloc_error = is ∙ ap refusals_told refused.0 in
              let no : ⊥ = cc in absurd no
        ];
        err = tt;
        memory = tt;
        settings = stays;
      }
      of_slot (Err e) is = record {
        ok = tt;
        err =
            let same = ask_refused b.settings.margin stays_as b c slot new ask (request slot ask.command) x did (told_memory x e (sym is)) in
            as_before books b c ask.who i slot new leads stays same.0 same.1;
        memory = λ O L was. elim (applies_run b.settings O was.opening L was.steps b was.board ask slot leads.member (was.histories ask.who slot leads.there) b.settings.margin stays_as c x new refl decided did) [
          | inl done ↦
              let J : List Event = history b.settings O L ask.who in
              let f : Option Outcome = found (outcome b.settings O (Ask ask ∷ L)) ask.who J ask.command in
              absurd (never_memory b.settings ask.who J ask.command ask.at f (sym done.0 ∙ told_memory x e (sym is)))
          | inr refused ↦ refused.3
        ];
        settings = stays;
      }

-- what was run of the step that was matched was run of the step
pub ran_matched : {A : Type 0} (told : A → Answer) (old new : World) (step matched : Step) (x : A) → step ≡ matched → RunsOrNeedsMemory told old matched (Ok x) new → RunsOrNeedsMemory (λ (answer : Answer). answer) old step (Ok (told x)) new
ran_matched told old new step matched x is ran = record {
  ok = subst (λ (s : Step). Runs old s (told x) new) (sym is) ran.ok;
  err = tt;
  memory = tt;
  settings = ran.settings;
}

pub refused_matched : {A : Type 0} (Q : AllocError → Type 0) (told : A → Answer) (old new : World) (step matched : Step) (e : AllocError) (passed_on : Result Answer AllocError) → step ≡ matched → IsErrAnd passed_on Q
    → RunsOrNeedsMemory told old matched (Err e) new → RunsOrNeedsMemory (λ (answer : Answer). answer) old step passed_on new
refused_matched Q told old new step matched e (Ok x) is fails ran = absurd fails
refused_matched Q told old new step matched e (Err f) is fails ran = record {
  ok = tt;
  err = ran.err;
  memory = subst (λ (s : Step). TakesMemory old s) (sym is) ran.memory;
  settings = ran.settings;
}
