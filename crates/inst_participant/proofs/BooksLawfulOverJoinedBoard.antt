-- Two boards are joined to one: the books that were lawful over either are lawful over it.
use Rattle.std.proofs.Common.{◌≡◌, ◌≢◌, ℕ, zero, suc, ◌+◌, ◌<◌, arith, List, [], ◌∷◌, ◌++◌, length, length-append, append_assoc, append-nil, inl, inr, ◌⊎◌, ⊎_elim, refl, sym, ap, ◌∙◌, subst, Some}
use Rattle.std.specs.Prelude.{slice_get, ◌↔◌}
use Rattle.std.proofs.lemmas.Bool.{cases_eq}
use Rattle.std.proofs.lemmas.Option.{slice_get_within}
use Rattle.inst_base.proofs.Lists.{last_at}
use Rattle.inst_base.specs.TimeLimit.{deadline_of}
use Rattle.inst_settings.specs.Settings.{HubSettings, participants}
use Rattle.inst_board.specs.declared.about.About.TheVariants.{Opened, HasTerms, Decided}
use Rattle.inst_board.specs.declared.about.Fact.{Fact}
use Rattle.inst_board.specs.Standing.{about}
use Rattle.inst_board.specs.Learning.{KnowsTruly}
use Rattle.inst_cell.specs.declared.shared_board.SharedBoard.{SharedBoard}
use Rattle.inst_cell.specs.declared.sight.Sight.{Sight}
use Rattle.inst_cell.specs.Held.{settings_of, knows, has_role, Stays, AtOneTable, roles_same}
use Rattle.inst_cell.specs.Meeting.{KnowsBoth, KnowsTruth, Vouches}
use Rattle.inst_cell.specs.Seen.{board_of_sight, sight_knows}
use Rattle.inst_model.specs.Opening.{Opening, IsOpening}
use Rattle.inst_slot.specs.Book.{Book, place_at, terms_to}
use Rattle.inst_slot.specs.LawfulBoard.{KnowsEnd, IsLawfulBoard}
use Rattle.inst_slot.proofs.LiveTransfersAfterEvent.{slice_get_at}
use Rattle.inst_slot.proofs.BoardStaysLawful.{kept_opening}
use Rattle.inst_participant.specs.Together.{IsMemberBook, AreTogether}
use Rattle.inst_participant.specs.Parts.{AreParts}
use Rattle.inst_participant.specs.Uniting.{IsSeparate, AreSeparate, AreAtOne, AreSights, OneKnows, OneSees}
use Rattle.inst_participant.specs.inner.Uniting.{AreJoined, IsToldMore}

-- from the board a to one that knows what a and the other knew
module _ (a other new : SharedBoard) (both : KnowsBoth a other new) (truth : KnowsTruth new) (vouches : Vouches a other) (same : settings_of new ≡ settings_of a) where
  kept : (f : Fact) → knows a f → knows new f
  kept f h = (both f).1 (inl h)

  pub lawful_joined : (x : Book) → (has_role a x.who → has_role new x.who) → IsLawfulBoard settings_of knows has_role a x → IsLawfulBoard settings_of knows has_role new x
  lawful_joined x role was = record {
    same_settings = same ∙ was.same_settings;
    role = role was.role;
    truly = λ k. subst (λ (s : HubSettings). KnowsTruly s.margin knows new k) (same ∙ was.same_settings) (truth k);
    taken_known = λ index id to cents stamp there.
        kept_opening settings_of knows has_role a new kept (place_at x.who index) (terms_to to cents id) (deadline_of x.settings.limit stamp) (was.taken_known index id to cents stamp there);
    only_taken = λ index kn. was.only_taken index (⊎_elim
        (λ mine. mine)
        (λ theirs. vouches.opening (place_at x.who index) Opened was.role tt theirs)
        ((both (about (place_at x.who index) Opened)).0 kn));
    arrived = was.arrived;
    forwarded_known = λ z index there is.
        kept_opening settings_of knows has_role a new kept (place_at z.entry.from index) (terms_to x.who z.entry.cents z.entry.id) z.entry.deadline (was.forwarded_known z index there is);
    booked_known = λ from id o e live.
        let end = was.booked_known from id o e live in
        let r : KnowsEnd knows new x from id o = record { index = end.index; lies = end.lies; known = kept (about (place_at from end.index) (Decided o)) end.known } in r;
    answered = λ k t o mine answer has ended.
        let got = vouches.answer k t o (subst (λ (q : ℕ). has_role a q) (sym mine) was.role) answer ((both (about k (HasTerms t))).0 has) ((both (about k (Decided o))).0 ended) in
        was.answered k t o mine answer got.0 got.1;
  }

  pub member_joined : (O : Opening) (s : HubSettings) (p : ℕ) (x : Book) → ((q : ℕ) → has_role a q → has_role new q) → IsMemberBook settings_of knows has_role a s O p x → IsMemberBook settings_of knows has_role new s O p x
  member_joined O s p x role m = record {
    settings_are = m.settings_are;
    who_is = m.who_is;
    sound = m.sound;
    since = m.since;
    lawful = lawful_joined x (role x.who) m.lawful;
    adopted = m.adopted;
  }

-- one after the other
pub got_last : {A : Type 0} (done rest : List A) (x : A) (all : List A) → done ++ x ∷ rest ≡ all → slice_get all (length done) ≡ Some x
got_last [] rest x all e = ap (λ l. slice_get l 0) (sym e)
got_last (y ∷ done) rest x all e = ap (λ l. slice_get l (suc (length done))) (sym e) ∙ got_last done rest x (done ++ x ∷ rest) refl

pub got_more : {A : Type 0} (done : List A) (x y : A) (p : ℕ) → slice_get done p ≡ Some y → slice_get (done ++ x ∷ []) p ≡ Some y
got_more [] x y p e = absurd (let no : ⊥ = cc in no)
got_more (z ∷ done) x y zero e = e
got_more (z ∷ done) x y (suc p) e = got_more done x y p e

got_snoc : {A : Type 0} (done : List A) (x y : A) (p : ℕ) → slice_get (done ++ x ∷ []) p ≡ Some y → (slice_get done p ≡ Some y) ⊎ ((p ≡ length done) × (x ≡ y))
got_snoc [] x y zero e = let is : x ≡ y = cc in inr (refl, is)
got_snoc [] x y (suc p) e = let no : ⊥ = cc in absurd no
got_snoc (z ∷ done) x y zero e = inl e
got_snoc (z ∷ done) x y (suc p) e = ⊎_elim (λ old. inl old) (λ new. inr (ap suc new.0, new.1)) (got_snoc done x y p e)

pub got_only : {A : Type 0} (x y : A) (p : ℕ) → slice_get (x ∷ []) p ≡ Some y → x ≡ y
got_only x y zero e = cc
got_only x y (suc p) e = let no : ⊥ = cc in absurd no

swapped : (a b c : SharedBoard) → KnowsBoth a b c → KnowsBoth b a c
swapped a b c both f = (λ h. ⊎_elim (λ x. inr x) (λ y. inl y) ((both f).0 h), λ h. (both f).1 (⊎_elim (λ x. inr x) (λ y. inl y) h))

-- what is joined so far
pub record SoFar (s : HubSettings) (slots : List Book) (all done rest : List SharedBoard) (whole : SharedBoard) : Type 0 where
  pub split : done ++ rest ≡ all
  pub joined : (words : SharedBoard) (O : Opening) → AreSeparate words O s slots all → AreJoined words O s slots done whole
  pub known : (f : Fact) → knows whole f ↔ OneKnows done f
  pub one : (words : SharedBoard) → AreAtOne words s slots all → AtOneTable words whole

pub first_so_far : (s : HubSettings) (slots : List Book) (all rest : List SharedBoard) (b : SharedBoard) → all ≡ b ∷ rest → SoFar s slots all (b ∷ []) rest b
first_so_far s slots all rest b e = record {
  split = sym e;
  joined = λ words O sep.
      let there : slice_get all 0 ≡ Some b = ap (λ (l : List SharedBoard). slice_get l 0) e in
      let one_slot : (x : Book) → slice_get slots 0 ≡ Some x → IsSeparate words O s 0 x b = λ x at. sep.each 0 x b at there in
      let many : 0 < length slots = omega (arith, sep.one_each, sep.enough, ap length e) in
      let first = slice_get_at slots 0 many in
      let m = one_slot first.0 first.1 in
      record {
        one = m.one;
        role = λ p below. let zero_is : p ≡ 0 = omega (arith, below) in subst (λ (q : ℕ). has_role b q) (m.member.who_is ∙ sym zero_is) m.member.lawful.role;
        member = λ p x below at. let zero_is : p ≡ 0 = omega (arith, below) in
            subst (λ (q : ℕ). IsMemberBook settings_of knows has_role b s O q x) (sym zero_is) (one_slot x (ap (slice_get slots) (sym zero_is) ∙ at)).member;
      };
  known = λ f. (
    λ kn. (0, b, refl, kn),
    λ one. subst (λ (d : SharedBoard). knows d f) (sym (got_only b one.1 one.0 one.2)) one.3,
  );
  one = λ words at_one. at_one.each 0 b (ap (λ (l : List SharedBoard). slice_get l 0) e);
}

pub more_so_far : (s : HubSettings) (slots : List Book) (all done rest left : List SharedBoard) (a b new : SharedBoard) → rest ≡ b ∷ left → SoFar s slots all done rest a → KnowsBoth a b new → KnowsTruth new → Vouches a b × Vouches b a
    → ((p : ℕ) → has_role new p ↔ (has_role a p ⊎ has_role b p)) → AtOneTable a new → SoFar s slots all (done ++ b ∷ []) left new
more_so_far s slots all done rest left a b new e so both truth vouches role one = record {
  split = append_assoc done (b ∷ []) left ∙ (ap (λ (l : List SharedBoard). done ++ l) (sym e) ∙ so.split);
  joined = λ words O sep.
      let was = so.joined words O sep in
      let there : slice_get all (length done) ≡ Some b = got_last done left b all (ap (λ (l : List SharedBoard). done ++ l) (sym e) ∙ so.split) in
      let below_all : length done < length all = slice_get_within all (length done) b there in
      let many : length done < length slots = omega (arith, below_all, sep.one_each, sep.enough) in
      let mine = slice_get_at slots (length done) many in
      let its = sep.each (length done) mine.0 b mine.1 there in
      let long : length (done ++ b ∷ []) ≡ length done + 1 = length-append done (b ∷ []) in
      let one_words : AtOneTable words new = (one.0 ∙ was.one.0, one.1 ∙ was.one.1) in
      let same_b : settings_of new ≡ settings_of b = one_words.1 ∙ sym its.one.1 in
      record {
        one = one_words;
        role = λ p below. elim (cases_eq p (length done)) [
          | inl at ↦ (role p).1 (inr (subst (λ (q : ℕ). has_role b q) (its.member.who_is ∙ sym at) its.member.lawful.role))
          | inr other ↦ (role p).1 (inl (was.role p (less p (length done) (omega (arith, below, long)) other)))
        ];
        member = λ p x below at. elim (cases_eq p (length done)) [
          | inl here ↦
              let x_there : slice_get slots (length done) ≡ Some x = ap (slice_get slots) (sym here) ∙ at in
              let m = sep.each (length done) x b x_there there in
              subst (λ (q : ℕ). IsMemberBook settings_of knows has_role new s O q x) (sym here)
              (member_joined b a new (swapped a b new both) truth vouches.1 same_b O s (length done) x (λ q h. (role q).1 (inr h)) m.member)
          | inr other ↦
              member_joined a b new both truth vouches.0 one.1 O s p x (λ q h. (role q).1 (inl h)) (was.member p x (less p (length done) (omega (arith, below, long)) other) at)
        ];
      };
  known = λ f. (
    λ kn. ⊎_elim
        (λ old. let o = (so.known f).0 old in (o.0, o.1, got_more done b o.1 o.0 o.2, o.3))
        (λ last. (length done, b, last_at done b, last))
        ((both f).0 kn),
    λ o. ⊎_elim
        (λ old. (both f).1 (inl ((so.known f).1 (o.0, o.1, old, o.3))))
        (λ last. (both f).1 (inr (subst (λ (d : SharedBoard). knows d f) (sym last.1) o.3)))
        (got_snoc done b o.1 o.0 o.2),
  );
  one = λ words at_one. let was = so.one words at_one in (one.0 ∙ was.0, one.1 ∙ was.1);
}
  where
    less : (i n : ℕ) → i < n + 1 → i ≢ n → i < n
    less i n below other = omega (arith, below, other)

pub one_table : (words : SharedBoard) (s : HubSettings) (slots : List Book) (all done rest left : List SharedBoard) (a b : SharedBoard) → AreAtOne words s slots all → SoFar s slots all done rest a → rest ≡ b ∷ left → AtOneTable a b
one_table words s slots all done rest left a b at_one so e =
    let was = so.one words at_one in
    let there : slice_get all (length done) ≡ Some b = got_last done left b all (ap (λ (l : List SharedBoard). done ++ l) (sym e) ∙ so.split) in
    let its = at_one.each (length done) b there in
    (its.0 ∙ sym was.0, its.1 ∙ sym was.1)

pub all_joined : (s : HubSettings) (slots : List Book) (all done rest : List SharedBoard) (a : SharedBoard) → rest ≡ [] → SoFar s slots all done rest a → (words : SharedBoard) (O : Opening) → AreSeparate words O s slots all → AreJoined words O s slots all a
all_joined s slots all done rest a none so words O sep =
    subst (λ (l : List SharedBoard). AreJoined words O s slots l a) (whole s slots all done rest a none so) (so.joined words O sep)
  where
    whole : (s : HubSettings) (slots : List Book) (all done rest : List SharedBoard) (a : SharedBoard) → rest ≡ [] → SoFar s slots all done rest a → done ≡ all
    whole s slots all done rest a none so = sym (append-nil done) ∙ (ap (λ (l : List SharedBoard). done ++ l) (sym none) ∙ so.split)

pub all_known : (s : HubSettings) (slots : List Book) (all done rest : List SharedBoard) (a : SharedBoard) → rest ≡ [] → SoFar s slots all done rest a → (f : Fact) → knows a f ↔ OneKnows all f
all_known s slots all done rest a none so f =
    let whole : done ≡ all = sym (append-nil done) ∙ (ap (λ (l : List SharedBoard). done ++ l) (sym none) ∙ so.split) in
    subst (λ (l : List SharedBoard). knows a f ↔ OneKnows l f) whole (so.known f)

-- what tellers told so far
pub record ToldSoFar (first : SharedBoard) (all done rest : List Sight) (whole : SharedBoard) : Type 0 where
  pub split : done ++ rest ≡ all
  pub more : IsToldMore first whole
  pub known : (f : Fact) → knows whole f ↔ (knows first f ⊎ OneSees done f)

pub more_told : (first : SharedBoard) (all done rest left : List Sight) (a new : SharedBoard) (t : Sight) → rest ≡ t ∷ left → ToldSoFar first all done rest a → KnowsBoth a (board_of_sight t) new → KnowsTruth new → Vouches a (board_of_sight t) → Stays a new → ToldSoFar first all (done ++ t ∷ []) left new
more_told first all done rest left a new t e so both truth vouches stays = record {
  split = append_assoc done (t ∷ []) left ∙ (ap (λ (l : List Sight). done ++ l) (sym e) ∙ so.split);
  more = record {
    stays = record { settings = stays.settings ∙ so.more.stays.settings; table = stays.table ∙ so.more.stays.table; roles = stays.roles ∙ so.more.stays.roles };
    kept = λ f h. (both f).1 (inl (so.more.kept f h));
    lawful = λ x was. lawful_joined a (board_of_sight t) new both truth vouches stays.settings x (λ h. (roles_same a new x.who stays).0 h) (so.more.lawful x was);
  };
  known = λ f. (
    λ kn. ⊎_elim
        (λ old. ⊎_elim
        (λ was. inl was)
        (λ o. inr (o.0, o.1, got_more done t o.1 o.0 o.2, o.3))
        ((so.known f).0 old))
        (λ last. inr (length done, t, last_at done t, last))
        ((both f).0 kn),
    λ one. ⊎_elim
        (λ was. (both f).1 (inl ((so.known f).1 (inl was))))
        (λ o. ⊎_elim
        (λ old. (both f).1 (inl ((so.known f).1 (inr (o.0, o.1, old, o.3)))))
        (λ last. (both f).1 (inr (subst (λ (v : Sight). sight_knows v f) (sym last.1) o.3)))
        (got_snoc done t o.1 o.0 o.2))
        one,
  );
}

pub teller_table : (first : SharedBoard) (all done rest left : List Sight) (a : SharedBoard) (t : Sight) → rest ≡ t ∷ left → AreSights first all → ToldSoFar first all done rest a → AtOneTable a (board_of_sight t)
teller_table first all done rest left a t e sights so =
    let at = sights (length done) t (got_last done left t all (ap (λ (l : List Sight). done ++ l) (sym e) ∙ so.split)) in
    (at.0 ∙ sym so.more.stays.table, at.1 ∙ sym so.more.stays.settings)

pub all_told : (first : SharedBoard) (all done rest : List Sight) (a : SharedBoard) → rest ≡ [] → ToldSoFar first all done rest a → (f : Fact) → knows a f ↔ (knows first f ⊎ OneSees all f)
all_told first all done rest a none so f =
    let whole : done ≡ all = sym (append-nil done) ∙ (ap (λ (l : List Sight). done ++ l) (sym none) ∙ so.split) in
    subst (λ (l : List Sight). knows a f ↔ (knows first f ⊎ OneSees l f)) whole (so.known f)

-- what was joined and told makes the parts of a hub
pub parts_made : (words : SharedBoard) (O : Opening) (s : HubSettings) (slots : List Book) (all : List SharedBoard) (a b : SharedBoard) → AreSeparate words O s slots all → AreJoined words O s slots all a → IsToldMore a b
    → (settings_of b ≡ s) × AreParts settings_of knows has_role b O slots
parts_made words O s slots all a b sep joined told =
    let s_is : settings_of b ≡ s = told.stays.settings ∙ (joined.one.1 ∙ sep.settings_are) in
    let member : (p : ℕ) (x : Book) → slice_get slots p ≡ Some x → IsMemberBook settings_of knows has_role b s O p x = λ p x at.
    let m = joined.member p x (omega (arith, slice_get_within slots p x at, sep.one_each, sep.enough)) at in
    record { settings_are = m.settings_are; who_is = m.who_is; sound = m.sound; since = m.since; lawful = told.lawful x m.lawful; adopted = m.adopted } in (
      s_is,
      record {
        opening = subst (λ (t : HubSettings). IsOpening t O) (sym s_is) sep.opening;
        together = subst (λ (t : HubSettings). AreTogether settings_of knows has_role b t O slots) (sym s_is) (record { one_each = sep.one_each; member = member });
        roles = λ p below. (roles_same a b p told.stays).0 (joined.role p (omega (arith, below, ap participants s_is, sep.enough)));
      },
    )
