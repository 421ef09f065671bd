-- The hub of the log of one name was closed, and the log of another name was begun, or wasn't.
use Rattle.std.proofs.Common.{◌≡◌, ◌≢◌, ◌∙◌, inl, inr, ℕ, Bool, true, false, List, [], Option, None, IsTrue, refl, sym, subst}
use Rattle.inst_chain.specs.declared.digest.Digest.{Digest}
use Rattle.inst_world.specs.NextOpening.{CanOpenFrom}
use Rattle.inst_logged.specs.Refused.{IsLogTaken}
use Rattle.inst_logged.specs.declared.version.Version.TheVariants.{Two}
use Rattle.inst_options.specs.declared.setting_changes.SettingChanges.{SettingChanges}
use Rattle.inst_program.specs.Files.{AllButTwoStay, Change, Files, IfKept, IsAsItWas, IsUntouched, change_of}
use Rattle.inst_program.specs.Keeping.{AsksFor, Carries, CarriesBooks, HasNoSuccessor, IsBegun, IsGoodToClose, IsPreviousOf, IsSafe, IsSparedLog, IsSuccessor, IsUncarried, NextAsked, NextHub, SparesBoth, lines_of_next}
use Rattle.inst_program.specs.Keeping.IsUncarried.{Bad, InUse, Other, Unfit}
use Rattle.inst_program.specs.inner.Carrying.{IsLogUnbegun, IsLogUnclosed}
use Rattle.inst_program.specs.inner.Visiting.{IsSameChange, IsVisited}
use Rattle.inst_program.proofs.Digests.{taken_same}
use Rattle.inst_program.proofs.CausesOfUnclosedHub.{none_to_close}
use Rattle.inst_program.proofs.LogAfterVisit.{begun, carries_books, safe_or, stays_behind}

-- a log that was closed has its lines
closed_safe : (digest : Option (List ℕ)) (mixes : Type 0) (next : NextHub) (c : Change) → CarriesBooks digest mixes next c → IsSparedLog mixes c
closed_safe digest mixes next c x = record { wanted = x.wanted; log = x.log; spared = x.spared }

-- a log was visited, and then nothing happened
module _ (a b c : Files) (name : List ℕ) (first : IsVisited a b name) (same : IsUntouched b c) where
  pub visited_before : IsVisited a c name
  visited_before = record {
    clean = λ is. first.clean (same.clean is);
    others = λ is other apart. stays_behind a b c other (first.others (same.clean is) other apart) (same.all is other);
    all_in = λ is. same.out is ∙ first.all_in (same.clean is);
  }

  pub carried_before : (digest : Option (List ℕ)) (mixes : Type 0) (closed : NextHub) → IfKept b (CarriesBooks digest mixes closed (change_of a b name)) → IfKept c (CarriesBooks digest mixes closed (change_of a c name))
  carried_before digest mixes closed books is =
      let stays = same.all is name in
      carries_books (change_of a b name) (change_of a c name) (record { was = refl; now = stays.same; could = λ file may. may; may = stays.crash }) digest mixes mixes closed (λ m. m) (books (same.clean is))

-- a hub can open from what follows
pub successor_can : (positions : Bool) (changes : SettingChanges) (old new : NextHub) → IsSuccessor positions changes old new → CanOpenFrom new.settings new.journals
successor_can false changes old new is = is.can
successor_can true changes old new is = is.can

-- what was read of a log before is so of it now
pub before_so : (b c : Files) (name : List ℕ) (positions : Bool) (previous : Option Digest) → IsUntouched b c → IfKept c (IsPreviousOf positions (b.bytes name) previous) → IfKept c (IsPreviousOf positions (c.bytes name) previous)
before_so b c name positions previous same before is = subst (λ (f : List ℕ). IsPreviousOf positions f previous) (sym (same.all is name).same) (before is)

-- none was opened
pub both_untouched : (from to : List ℕ) (old new : Files) → IsUntouched old new → SparesBoth from to old new
both_untouched from to old new same = record {
  from_is = λ is. inl (same.all is from);
  to_is = λ is. inl (same.all is to);
  others = λ is other a b. same.all is other;
}

good_same : (digest : Option (List ℕ)) (w v : Option Digest) → AsksFor digest w → AsksFor digest v → (file : List ℕ) → IsGoodToClose w file → IsGoodToClose v file
good_same digest w v is same file good = record {
  version = good.version;
  mode = good.mode;
  settings = good.settings;
  first = good.first;
  lines = good.lines;
  begins = good.begins;
  taken = taken_same digest w v is same good.version good.first None file good.taken;
}

-- the first isn't there
pub absent_uncarried : (asked : NextAsked) (old new : Files) → IsUntouched old new → IfKept new (new.bytes asked.from ≡ []) → IsUncarried asked old new
absent_uncarried asked old new same none = Bad (λ wanted asks is good. none_to_close wanted (old.bytes asked.from) (new.bytes asked.from) (same.all is asked.from).same (none is) good)

module _ (asked : NextAsked) (apart : asked.from ≢ asked.to) (mixes : Type 0) (old a b : Files) (more : old.mixes → mixes) (untouched : IsUntouched old a) (first : IsVisited a b asked.from) where
  -- the second log until the first was closed
  to_so_far : IfKept b (IsAsItWas (change_of old b asked.to))
  to_so_far is = stays_behind old a b asked.to (untouched.all (first.clean is) asked.to) (first.others is asked.to (λ same. apart (sym same)))

  first_change : IfKept b (IsSameChange (change_of a b asked.from) (change_of old b asked.from))
  first_change is =
      let before = untouched.all (first.clean is) asked.from in
      record { was = sym before.same; now = refl; could = before.crash; may = λ file may. may }

  pub not_closed : IsSafe mixes (IsTrue b.is_clean) (change_of a b asked.from) → SparesBoth asked.from asked.to old b
  not_closed safe = record {
    from_is = λ is. safe_or (change_of a b asked.from) (change_of old b asked.from) (first_change is) mixes old.mixes more (safe is);
    to_is = λ is. inl (to_so_far is);
    others = λ is other from_not to_not. stays_behind old a b other (untouched.all (first.clean is) other) (first.others is other from_not);
  }

  -- why the first isn't closed
  pub uncarried_first : (wanted : Option Digest) → AsksFor asked.digest wanted → IsLogUnclosed (b.in_use asked.from) (IsTrue b.is_clean) wanted (a.bytes asked.from) → IsUncarried asked old b
  uncarried_first wanted asks (inl used) = InUse (inl used)
  uncarried_first wanted asks (inr bad) = Bad (λ w other is good.
      bad is (subst (IsGoodToClose wanted) (sym (untouched.all (first.clean is) asked.from).same) (good_same asked.digest w wanted other asks (old.bytes asked.from) good)))

  -- the first was closed, and the changes aren't allowed
  module _ (closed : NextHub) (books : IfKept b (CarriesBooks asked.digest mixes closed (change_of a b asked.from))) where
    closed_so_far : IfKept b (CarriesBooks asked.digest old.mixes closed (change_of old b asked.from))
    closed_so_far is = carries_books (change_of a b asked.from) (change_of old b asked.from) (first_change is) asked.digest mixes old.mixes closed more (books is)

    pub unfit : HasNoSuccessor asked.positions asked.changes closed → IsUncarried asked old b
    unfit none = Unfit closed closed_so_far none

    pub only_closed : SparesBoth asked.from asked.to old b
    only_closed = record {
      from_is = λ is. inr (closed_safe asked.digest old.mixes closed (change_of old b asked.from) (closed_so_far is));
      to_is = λ is. inl (to_so_far is);
      others = λ is other from_not to_not. stays_behind old a b other (untouched.all (first.clean is) other) (first.others is other from_not);
    }

  module _ (c : Files) (second : IsVisited b c asked.to) where
    third : AllButTwoStay old c asked.from asked.to
    third is other from_not to_not =
        let is_b = second.clean is in
        stays_behind old a c other (untouched.all (first.clean is_b) other)
        (stays_behind a b c other (first.others is_b other from_not) (second.others is other to_not))

    from_change : IfKept c (IsSameChange (change_of a b asked.from) (change_of old c asked.from))
    from_change is =
        let is_b = second.clean is in
        let before = untouched.all (first.clean is_b) asked.from in
        let behind = second.others is asked.from apart in
        record { was = sym before.same; now = behind.same; could = before.crash; may = behind.crash }

    to_change : IfKept c (IsSameChange (change_of b c asked.to) (change_of old c asked.to))
    to_change is =
        let before = to_so_far (second.clean is) in
        record { was = sym before.same; now = refl; could = before.crash; may = λ file may. may }

    module _ (closed : NextHub) (books : IfKept b (CarriesBooks asked.digest mixes closed (change_of a b asked.from))) (next : NextHub) (follows : IsSuccessor asked.positions asked.changes closed next)
        (previous : Option Digest) (before : IfKept b (IsPreviousOf asked.positions (b.bytes asked.from) previous)) where
      said_before : IfKept c (IsPreviousOf asked.positions (c.bytes asked.from) previous)
      said_before is = let is_b = second.clean is in subst (λ (f : List ℕ). IsPreviousOf asked.positions f previous) (sym (second.others is asked.from apart).same) (before is_b)

      carried : IfKept c (CarriesBooks asked.digest old.mixes closed (change_of old c asked.from))
      carried is = carries_books (change_of a b asked.from) (change_of old c asked.from) (from_change is) asked.digest mixes old.mixes closed more (books (second.clean is))

      -- why the second isn't begun
      pub uncarried_second : IsLogUnbegun (c.in_use asked.to) (IsTrue c.is_clean) (lines_of_next next previous) (b.bytes asked.to) → IsUncarried asked old c
      uncarried_second (inl used) = InUse (inr used)
      uncarried_second (inr other) = Other closed next previous carried follows said_before (λ is taken.
          other is (subst (IsLogTaken Two (lines_of_next next previous) None None) (sym (to_so_far (second.clean is)).same) taken))

      pub carries : IfKept c (IsBegun (lines_of_next next previous) (change_of b c asked.to)) → Carries asked old c
      carries begins = record {
        apart = apart;
        closed = closed;
        carries = carried;
        next = next;
        follows = follows;
        previous = previous;
        before = said_before;
        begun = λ is. begun (change_of b c asked.to) (change_of old c asked.to) (to_change is) (lines_of_next next previous) (begins is);
        others = third;
      }

      pub not_begun : IsSafe mixes (IsTrue c.is_clean) (change_of b c asked.to) → SparesBoth asked.from asked.to old c
      not_begun safe = record {
        from_is = λ is. inr (closed_safe asked.digest old.mixes closed (change_of old c asked.from) (carried is));
        to_is = λ is. safe_or (change_of b c asked.to) (change_of old c asked.to) (to_change is) mixes old.mixes more (safe is);
        others = third;
      }
