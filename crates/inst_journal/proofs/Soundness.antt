-- Sound histories grow event by event, so what holds of the empty one and through each event that fits holds of all.
use Rattle.std.proofs.Common.{ℕ, List, [], ◌∷◌, ◌++◌, sym, subst, append_assoc, append-nil}
use Rattle.inst_settings.specs.Settings.{HubSettings}
use Rattle.inst_journal.specs.declared.event.Event.{Event}
use Rattle.inst_journal.specs.Sound.{Fits, FitAfter, IsSound}

fit_append : (s : HubSettings) (who : ℕ) (front xs ys : List Event) → FitAfter s who front xs → FitAfter s who (front ++ xs) ys → FitAfter s who front (xs ++ ys)
fit_append s who front [] ys first second = subst (λ (f : List Event). FitAfter s who f ys) (append-nil front) second
fit_append s who front (x ∷ xs) ys first second =
    (first.0, fit_append s who (front ++ x ∷ []) xs ys first.1 (subst (λ (f : List Event). FitAfter s who f ys) (sym (append_assoc front (x ∷ []) xs)) second))

-- an event that fits leaves a history sound
pub sound_push : (s : HubSettings) (who : ℕ) (J : List Event) (event : Event) → IsSound s who J → Fits s who J event → IsSound s who (J ++ event ∷ [])
sound_push s who J event sound fits = fit_append s who [] J (event ∷ []) sound (fits, tt)

-- events that fit, one after another, leave a history sound
pub sound_with : (s : HubSettings) (who : ℕ) (J kept : List Event) → IsSound s who J → FitAfter s who J kept → IsSound s who (J ++ kept)
sound_with s who J kept sound fits = fit_append s who [] J kept sound fits

along : (s : HubSettings) (who : ℕ) (P : List Event → Type 0) → ((J : List Event) (event : Event) → IsSound s who J → Fits s who J event → P J → P (J ++ event ∷ []))
    → (front rest : List Event) → IsSound s who front → P front → FitAfter s who front rest → P (front ++ rest)
along s who P step front [] sound here fits = subst P (sym (append-nil front)) here
along s who P step front (event ∷ events) sound here fits =
    subst P (append_assoc front (event ∷ []) events)
    (along s who P step (front ++ event ∷ []) events (sound_push s who front event sound fits.0) (step front event sound fits.0 here) fits.1)

-- induction over the events of a sound history
pub sound_induction : (s : HubSettings) (who : ℕ) (P : List Event → Type 0) → P []
    → ((J : List Event) (event : Event) → IsSound s who J → Fits s who J event → P J → P (J ++ event ∷ []))
    → (J : List Event) → IsSound s who J → P J
sound_induction s who P start step J sound = along s who P step [] J tt start sound
