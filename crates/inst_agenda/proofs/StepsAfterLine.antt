-- What follows a line, step by step.
use Rattle.std.proofs.Common.{◌≡◌, ℕ, zero, suc, ◌+◌, ◌≤◌, List, [], ◌∷◌, ◌++◌, length, take, reverse, Some, None, refl, sym, ap, ◌∙◌, arith, append_assoc}
use Rattle.std.specs.Prelude.{slice_get, option_map}
use Rattle.std.specs.List.{AllByRecursion}
use Rattle.std.proofs.lemmas.List.{reverse-append, take_all}
use Rattle.inst_settings.specs.Settings.{HubSettings}
use Rattle.inst_command.specs.declared.ask.Ask.{Ask as AskValue}
use Rattle.inst_command.specs.declared.step.Step.{Step}
use Rattle.inst_command.specs.declared.step.Step.TheVariants.{Ask}
use Rattle.inst_model.specs.Opening.{Opening}
use Rattle.inst_model.specs.Transfer.{Transfer, live_transfers, at_place}
use Rattle.inst_model.specs.Hub.{history}
use Rattle.inst_agenda.specs.FollowUps.{of_transfer, of_transfers, steps_of_originators}
use Rattle.inst_world.proofs.PlaceOfNamedTransfer.{some_of}
use Rattle.inst_world.proofs.DeliveryAndResolutionFollowModel.{takes_none, no_ask_deliver, no_ask_learn, no_ask_expire}

abbrev NoAsk : Step → Type 0
NoAsk step = (ask : AskValue) → step ≡ Ask ask → ⊥

all_append : (P : Step → Type 0) (xs ys : List Step) → AllByRecursion P xs → AllByRecursion P ys → AllByRecursion P (xs ++ ys)
all_append P [] ys first second = second
all_append P (x ∷ xs) ys first second = (first.0, all_append P xs ys first.1 second)

-- first these in front, and then those
pub one_on : (xs ys L : List Step) → reverse (xs ++ ys) ++ L ≡ reverse ys ++ (reverse xs ++ L)
one_on xs ys L = ap (λ (t : List Step). t ++ L) (reverse-append xs ys) ∙ append_assoc (reverse ys) (reverse xs) L

pub of_transfer_no_ask : (at p index to : ℕ) → AllByRecursion NoAsk (of_transfer at p index to)
of_transfer_no_ask at p index to = (no_ask_deliver p index to, (no_ask_learn p p index, (no_ask_expire p index at, (no_ask_learn to p index, tt))))

of_transfers_no_ask : (at p index : ℕ) (xs : List Transfer) → AllByRecursion NoAsk (of_transfers at p index xs)
of_transfers_no_ask at p index [] = tt
of_transfers_no_ask at p index (x ∷ xs) =
    all_append NoAsk (of_transfer at p index x.to) (of_transfers at p (suc index) xs) (of_transfer_no_ask at p index x.to) (of_transfers_no_ask at p (suc index) xs)

of_originators_no_ask : (at : ℕ) (T : ℕ → List Transfer) (n : ℕ) → AllByRecursion NoAsk (steps_of_originators at T n)
of_originators_no_ask at T zero = tt
of_originators_no_ask at T (suc p) =
    all_append NoAsk (steps_of_originators at T p) (of_transfers at p 0 (T p)) (of_originators_no_ask at T p) (of_transfers_no_ask at p 0 (T p))

-- steps that are no asks take nothing
pub same_after : (s : HubSettings) (O : Opening) (xs L : List Step) → AllByRecursion NoAsk xs → (p : ℕ) → live_transfers p (history s O (reverse xs ++ L) p) ≡ live_transfers p (history s O L p)
same_after s O [] L none p = refl
same_after s O (x ∷ xs) L none p =
    ap (λ (M : List Step). live_transfers p (history s O M p)) (one_on (x ∷ []) xs L)
    ∙ same_after s O xs (x ∷ L) none.1 p
    ∙ takes_none s O x L none.0 p

-- one transfer more
of_more : (at p index : ℕ) (T : List Transfer) (x : Transfer) → of_transfers at p index (T ++ x ∷ []) ≡ of_transfers at p index T ++ of_transfer at p (index + length T) x.to
of_more at p index [] x = ap (λ (n : ℕ). of_transfer at p n x.to) same
  where
    same : index ≡ index + 0
    same = omega arith
of_more at p index (y ∷ T) x =
    ap (λ (t : List Step). of_transfer at p index y.to ++ t) (of_more at p (suc index) T x)
    ∙ sym (append_assoc (of_transfer at p index y.to) (of_transfers at p (suc index) T) (of_transfer at p (suc index + length T) x.to))
    ∙ ap (λ (n : ℕ). (of_transfer at p index y.to ++ of_transfers at p (suc index) T) ++ of_transfer at p n x.to) same
  where
    same : suc index + length T ≡ index + length (y ∷ T)
    same = omega arith

take_get : (T : List Transfer) (k : ℕ) (x : Transfer) → slice_get T k ≡ Some x → take (suc k) T ≡ take k T ++ x ∷ []
take_get [] k x e = let no : ⊥ = cc in absurd no
take_get (y ∷ T) zero x e = let is : y ≡ x = cc in ap (λ (z : Transfer). z ∷ []) is
take_get (y ∷ T) (suc k) x e = ap (λ (t : List Transfer). y ∷ t) (take_get T k x e)

take_length : (T : List Transfer) (k : ℕ) (x : Transfer) → slice_get T k ≡ Some x → length (take k T) ≡ k
take_length [] k x e = let no : ⊥ = cc in absurd no
take_length (y ∷ T) zero x e = refl
take_length (y ∷ T) (suc k) x e = ap suc (take_length T k x e)

take_past : (T : List Transfer) (k : ℕ) → slice_get T k ≡ None → take (suc k) T ≡ take k T
take_past [] zero e = refl
take_past [] (suc k) e = refl
take_past (y ∷ T) zero e = let no : ⊥ = cc in absurd no
take_past (y ∷ T) (suc k) e = ap (λ (t : List Transfer). y ∷ t) (take_past T k e)

take_zero : (T : List Transfer) → take 0 T ≡ []
take_zero [] = refl
take_zero (y ∷ T) = refl

-- the first k transfers of the originator p have been gone over
abbrev pub gone_over : HubSettings → Opening → List Step → ℕ → ℕ → ℕ → List Step
gone_over s O L at p k = reverse (of_transfers at p 0 (take k (live_transfers p (history s O L p)))) ++ L

same_live : (s : HubSettings) (O : Opening) (L : List Step) (at p k : ℕ) → live_transfers p (history s O (gone_over s O L at p k) p) ≡ live_transfers p (history s O L p)
same_live s O L at p k =
    same_after s O (of_transfers at p 0 (take k (live_transfers p (history s O L p)))) L (of_transfers_no_ask at p 0 (take k (live_transfers p (history s O L p)))) p

-- one more
pub gone_on : (s : HubSettings) (O : Opening) (L : List Step) (at p k to : ℕ) → Some to ≡ option_map (λ (x : Transfer). x.to) (at_place p (history s O (gone_over s O L at p k) p) k)
    → gone_over s O L at p (k + 1) ≡ reverse (of_transfer at p k to) ++ gone_over s O L at p k
gone_on s O L at p k to e =
    let T : List Transfer = live_transfers p (history s O L p) in
    let found = some_of (slice_get T k) to (e ∙ ap (λ (U : List Transfer). option_map (λ (x : Transfer). x.to) (slice_get U k)) (same_live s O L at p k)) in
    let more : of_transfers at p 0 (take (k + 1) T) ≡ of_transfers at p 0 (take k T) ++ of_transfer at p k to =
    ap (λ (n : ℕ). of_transfers at p 0 (take n T)) next
    ∙ ap (of_transfers at p 0) (take_get T k found.0 found.1)
    ∙ of_more at p 0 (take k T) found.0
    ∙ ap (λ (n : ℕ). of_transfers at p 0 (take k T) ++ of_transfer at p n found.0.to) (from_none (length (take k T)) ∙ take_length T k found.0 found.1)
    ∙ ap (λ (n : ℕ). of_transfers at p 0 (take k T) ++ of_transfer at p k n) found.2 in
    ap (λ (t : List Step). reverse t ++ L) more ∙ one_on (of_transfers at p 0 (take k T)) (of_transfer at p k to) L
  where
    next : k + 1 ≡ suc k
    next = omega arith

    from_none : (n : ℕ) → 0 + n ≡ n
    from_none n = omega arith

-- no more, where there is none at the next place
pub gone_past : (s : HubSettings) (O : Opening) (L : List Step) (at p k : ℕ) → at_place p (history s O (gone_over s O L at p k) p) k ≡ None
    → gone_over s O L at p (k + 1) ≡ gone_over s O L at p k
gone_past s O L at p k none =
    let T : List Transfer = live_transfers p (history s O L p) in
    ap (λ (n : ℕ). reverse (of_transfers at p 0 (take n T)) ++ L) next
    ∙ ap (λ (U : List Transfer). reverse (of_transfers at p 0 U) ++ L) (take_past T k (ap (λ (U : List Transfer). slice_get U k) (sym (same_live s O L at p k)) ∙ none))
  where
    next : k + 1 ≡ suc k
    next = omega arith

-- none yet
pub gone_nowhere : (s : HubSettings) (O : Opening) (L : List Step) (at p : ℕ) → gone_over s O L at p 0 ≡ L
gone_nowhere s O L at p = ap (λ (U : List Transfer). reverse (of_transfers at p 0 U) ++ L) (take_zero (live_transfers p (history s O L p)))

-- all, where there are no more places
pub gone_over_places : (s : HubSettings) (O : Opening) (L : List Step) (at p k : ℕ) → length (live_transfers p (history s O L p)) ≤ k
    → gone_over s O L at p k ≡ reverse (of_transfers at p 0 (live_transfers p (history s O L p))) ++ L
gone_over_places s O L at p k few =
    ap (λ (U : List Transfer). reverse (of_transfers at p 0 U) ++ L) (take_all k (live_transfers p (history s O L p)) few)

-- the transfers of the first p originators have been gone over
abbrev pub gone_over_originators : HubSettings → Opening → List Step → ℕ → ℕ → List Step
gone_over_originators s O L at p = reverse (steps_of_originators at (λ (q : ℕ). live_transfers q (history s O L q)) p) ++ L

-- those of one originator more
pub originator_more : (s : HubSettings) (O : Opening) (L : List Step) (at p : ℕ)
    → gone_over_originators s O L at (p + 1)
    ≡ reverse (of_transfers at p 0 (live_transfers p (history s O (gone_over_originators s O L at p) p))) ++ gone_over_originators s O L at p
originator_more s O L at p =
    let T : ℕ → List Transfer = λ q. live_transfers q (history s O L q) in
    ap (λ (n : ℕ). reverse (steps_of_originators at T n) ++ L) next
    ∙ one_on (steps_of_originators at T p) (of_transfers at p 0 (T p)) L
    ∙ ap (λ (U : List Transfer). reverse (of_transfers at p 0 U) ++ gone_over_originators s O L at p)
    (sym (same_after s O (steps_of_originators at T p) L (of_originators_no_ask at T p) p))
  where
    next : p + 1 ≡ suc p
    next = omega arith
