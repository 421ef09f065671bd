-- What seats have seen after they met, and after a lock was taken and given back.
use Rattle.std.proofs.Common.{◌≡◌, ℕ, ⊎_elim, inl, inr, List, ◌++◌, sym, subst}
use Rattle.std.specs.Prelude.{Contains}
use Rattle.std.proofs.lemmas.List.Elements.{Contains-append_left, Contains-append_right, Contains-append_cases}
use Rattle.inst_row.specs.declared.view.Front.{Front}
use Rattle.inst_row.specs.declared.seat.RowSeat.{RowSeat}
use Rattle.inst_row.specs.View.{front}
use Rattle.inst_row.specs.Seated.{view_of, HasSeen, SeesBoth}

module _ {T E K : Type 0} where
  pub sees_both : (old other new : RowSeat T E K) →
      (view_of new).fronts ≡ (view_of old).fronts ++ (view_of other).fronts → SeesBoth old other new
  sees_both old other new e p h = (
    λ c. Contains-append_cases (view_of old).fronts (view_of other).fronts (front p h)
        (subst (λ (l : List (Front E)). Contains l (front p h)) e c),
    λ c. subst (λ (l : List (Front E)). Contains l (front p h)) (sym e)
        (⊎_elim (λ l. Contains-append_left (view_of old).fronts (view_of other).fronts (front p h) l)
        (λ r. Contains-append_right (view_of old).fronts (view_of other).fronts (front p h) r) c),
  )

  seen_as : (s t : RowSeat T E K) → (view_of t).fronts ≡ (view_of s).fronts → (p : ℕ) (h : List E) → HasSeen p h s →
      HasSeen p h t
  seen_as s t e p h c = subst (λ (l : List (Front E)). Contains l (front p h)) (sym e) c

  -- two seats meet: a part of the first goes to the second, and a part of that back to the first
  pub meet_second : (one two two_then part : RowSeat T E K) → (view_of part).fronts ≡ (view_of one).fronts →
      SeesBoth two part two_then → SeesBoth two one two_then
  meet_second one two two_then part e both p h = (
    λ c. ⊎_elim (λ l. inl l) (λ r. inr (seen_as part one (sym e) p h r)) ((both p h).0 c),
    λ c. (both p h).1 (⊎_elim (λ l. inl l) (λ r. inr (seen_as one part e p h r)) c),
  )

  pub meet_first : (one one_then two two_then part one_last : RowSeat T E K) →
      (view_of one_then).fronts ≡ (view_of one).fronts → (view_of part).fronts ≡ (view_of two_then).fronts →
      SeesBoth two one two_then → SeesBoth one_then part one_last → SeesBoth one two one_last
  meet_first one one_then two two_then part one_last e f second both p h = (
    λ c. ⊎_elim (λ l. inl (seen_as one_then one (sym e) p h l))
        (λ r. ⊎_elim (λ k. inr k) (λ k. inl k) ((second p h).0 (seen_as part two_then (sym f) p h r)))
        ((both p h).0 c),
    λ c. (both p h).1 (⊎_elim (λ l. inl (seen_as one one_then e p h l))
        (λ r. inr (seen_as two_then part f p h ((second p h).1 (inl r)))) c),
  )

  pub meet_after : (one two two_then two_last : RowSeat T E K) → (view_of two_last).fronts ≡ (view_of two_then).fronts →
      SeesBoth two one two_then → SeesBoth two one two_last
  meet_after one two two_then two_last e both p h = (
    λ c. (both p h).0 (seen_as two_last two_then (sym e) p h c),
    λ c. seen_as two_then two_last e p h ((both p h).1 c),
  )
