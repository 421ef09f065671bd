-- What a log that was opened, and closed again, is then.
use Rattle.std.proofs.Common.{◌≡◌, ◌⊎◌, ◌++◌, ◌∙◌, inl, inr, ℕ, List, Option, Some, IsTrue, refl, sym, subst}
use Rattle.sqlite_disk.specs.Disk.{Only}
use Rattle.sqlite_disk.specs.declared.Disk.{Ghosts}
use Rattle.inst_log.specs.Layout.{recovered_lines}
use Rattle.inst_log.specs.Opening.{lines_after_settings}
use Rattle.inst_log.specs.Disks.{HasKeptFaith, HasSameFile}
use Rattle.inst_logged.specs.Streams.{Streams}
use Rattle.inst_program.specs.Files.{AllAreIn, Change, Files, IfKept, IsAsItWas, IsFileClosed, IsFileOpened, IsUntouched, MayBe, OthersStay, Stay, change_of, change_on}
use Rattle.inst_program.specs.Keeping.{AnswersAFront, AnswersBehind, CarriesBooks, IsBegun, IsSafe, IsSparedLog, IsUntaken, KeepsLines, KeptRun, NextHub}
use Rattle.inst_program.specs.inner.ExitReason.{IsUnkept}
use Rattle.inst_program.specs.inner.Visiting.{IsSameChange, IsVisitedAs}
use Rattle.inst_program.proofs.TextEquality.{text_tells}

-- one change behind another
pub stays_behind : (a b c : Files) (name : List ℕ) → IsAsItWas (change_of a b name) → IsAsItWas (change_of b c name) → IsAsItWas (change_of a c name)
stays_behind a b c name x y = record { same = y.same ∙ x.same; crash = λ file may. x.crash file (y.crash file may) }

pub nothing_happened : (files : Files) → Stay files files
nothing_happened files is name = record { same = refl; crash = λ file may. may }

pub untouched_behind : (a b c : Files) → IsUntouched a b → IsUntouched b c → IsUntouched a c
untouched_behind a b c x y = record {
  clean = λ is. x.clean (y.clean is);
  all = λ is name. stays_behind a b c name (x.all (y.clean is) name) (y.all is name);
  out = λ is. y.out is ∙ x.out (y.clean is);
}

pub opened_behind : (a b c : Files) (name bytes : List ℕ) (may_leave : List ℕ → Type 0) → IsUntouched a b → IsFileOpened b c name bytes may_leave → IsFileOpened a c name bytes may_leave
opened_behind a b c name bytes may_leave x y = record {
  clean = λ is. x.clean (y.clean is);
  all = λ is other. stays_behind a b c other (x.all (y.clean is) other) (y.all is other);
  same = λ is. y.same is ∙ (x.all (y.clean is) name).same;
  crash = λ is file may. (x.all (y.clean is) name).crash file (y.crash is file may);
  out = y.out;
}

-- what is so of a change is so of one that is the same
module _ (c d : Change) (same : IsSameChange c d) where
  may_be : (file : List ℕ) → MayBe d file → MayBe c file
  may_be file (inl now) = inl (now ∙ same.now)
  may_be file (inr may) = inr (same.may file may)

  pub as_it_was : IsAsItWas c → IsAsItWas d
  as_it_was x = record { same = same.now ∙ x.same ∙ sym same.was; crash = λ file may. same.could file (x.crash file (same.may file may)) }

  pub behind : (run : KeptRun) (t : Streams) → AnswersBehind run t c → AnswersBehind run t d
  behind run t x =
      let now = subst (λ (file : List ℕ). AnswersBehind run t (record { was = c.was; now = file; could_leave = d.could_leave; may_leave = d.may_leave })) (sym same.now) (record {
        version = x.version;
        past = x.past;
        first = x.first;
        taken = x.taken;
        intact = x.intact;
        logged = x.logged;
      }) in
      subst (λ (file : List ℕ). AnswersBehind run t (record { was = file; now = d.now; could_leave = d.could_leave; may_leave = d.may_leave })) (sym same.was) now

  pub a_front : (run : KeptRun) (t : Streams) (mixes mixes' : Type 0) → (mixes' → mixes) → AnswersAFront run t mixes c → AnswersAFront run t mixes' d
  a_front run t mixes mixes' more x =
      let v = x.survives in
      let k = v.kept in
      subst (λ (file : List ℕ). AnswersAFront run t mixes' (record { was = file; now = d.now; could_leave = d.could_leave; may_leave = d.may_leave })) (sym same.was) (record {
        version = x.version;
        past = x.past;
        first = x.first;
        taken = x.taken;
        survives = record {
          bytes = v.bytes;
          consumes = v.consumes;
          lines = v.lines;
          lines_are = v.lines_are;
          kept = record { told = k.told; handed = k.handed; kept = λ file may. k.kept file (may_be file may) };
        };
        begins = λ begins file may. x.begins begins file (may_be file may);
        intact = λ is intact file may. x.intact (more is) intact file (may_be file may);
      })

  spared_log : (mixes mixes' : Type 0) → (mixes' → mixes) → IsSparedLog mixes c → IsSparedLog mixes' d
  spared_log mixes mixes' more x =
      subst (λ (file : List ℕ). IsSparedLog mixes' (record { was = file; now = d.now; could_leave = d.could_leave; may_leave = d.may_leave })) (sym same.was) (record {
        wanted = x.wanted;
        log = x.log;
        spared = record {
          alike = λ file may. x.spared.alike file (may_be file may);
          stands = λ file may. x.spared.stands file (may_be file may);
          intact = λ is intact file may. x.spared.intact (more is) intact file (may_be file may);
        };
      })

  pub safe_or : (mixes mixes' : Type 0) → (mixes' → mixes) → IsAsItWas c ⊎ IsSparedLog mixes c → IsAsItWas d ⊎ IsSparedLog mixes' d
  safe_or mixes mixes' more (inl x) = inl (as_it_was x)
  safe_or mixes mixes' more (inr x) = inr (spared_log mixes mixes' more x)

  pub begun : (first : List ℕ) → IsBegun first c → IsBegun first d
  begun first x =
      let now = subst (λ (file : List ℕ). IsBegun first (record { was = c.was; now = file; could_leave = d.could_leave; may_leave = d.may_leave })) (sym same.now) (record {
        taken = x.taken;
        lines = x.lines;
        intact = x.intact;
        durable = λ file may. x.durable file (same.may file may);
      }) in
      subst (λ (file : List ℕ). IsBegun first (record { was = file; now = d.now; could_leave = d.could_leave; may_leave = d.may_leave })) (sym same.was) now

  pub carries_books : (digest : Option (List ℕ)) (mixes mixes' : Type 0) (next : NextHub) → (mixes' → mixes) → CarriesBooks digest mixes next c → CarriesBooks digest mixes' next d
  carries_books digest mixes mixes' next more x =
      subst (λ (file : List ℕ). CarriesBooks digest mixes' next (record { was = file; now = d.now; could_leave = d.could_leave; may_leave = d.may_leave })) (sym same.was) (record {
        there = x.there;
        wanted = x.wanted;
        asked = x.asked;
        log = x.log;
        stays = subst (λ (file : List ℕ). recovered_lines file ≡ recovered_lines x.log.first ++ lines_after_settings x.log.first c.was) (sym same.now) x.stays;
        spared = record {
          alike = λ file may. x.spared.alike file (may_be file may);
          stands = λ file may. x.spared.stands file (may_be file may);
          intact = λ is intact file may. x.spared.intact (more is) intact file (may_be file may);
        };
        journals = x.journals;
        books = x.books;
        next_is = x.next_is;
      })

  durable : Only c.now c.may_leave → Only d.now d.may_leave
  durable only file may = only file (same.may file may) ∙ sym same.now

  front_or : (run : KeptRun) (t : Streams) (mixes mixes' : Type 0) → (mixes' → mixes) → (t.unread × t.unwritten × IsAsItWas c) ⊎ AnswersAFront run t mixes c
      → (t.unread × t.unwritten × IsAsItWas d) ⊎ AnswersAFront run t mixes' d
  front_or run t mixes mixes' more (inl x) = inl (x.0, x.1, as_it_was x.2)
  front_or run t mixes mixes' more (inr x) = inr (a_front run t mixes mixes' more x)

-- a disk that was only read before
pub left_change : {D : Type 0} (disks : Ghosts D) (a b c : D) → HasSameFile disks a b → IsSameChange (change_on disks b c) (change_on disks a c)
left_change disks a b c left = record { was = sym left.same; now = refl; could = left.crash; may = λ file may. may }

-- the file was opened, and closed again
module _ {D : Type 0} (disks : Ghosts D) (old mid new : Files) (name : List ℕ) (disk disk' : D)
    (opened : IsFileOpened old mid name (disks.seen disk) (disks.may_leave disk))
    (closed : IfKept new ((n : List ℕ) → mid.out ≡ Some n → IsFileClosed mid new n (disks.seen disk') (disks.may_leave disk')))
    (clean : IfKept new (IsTrue mid.is_clean × HasKeptFaith disks disk')) where
  pub visited : IsVisitedAs disks old new name disk disk'
  visited = record {
    faith = λ is. (clean is).1;
    change = λ is.
        let o = (clean is).0 in
        let c = closed is name (opened.out o) in
        record { was = sym (opened.same o); now = c.same; could = opened.crash o; may = c.crash };
    visit = record {
      clean = λ is. opened.clean (clean is).0;
      others = λ is other apart. stays_behind old mid new other (opened.all (clean is).0 other) ((closed is name (opened.out (clean is).0)).others other apart);
      all_in = λ is. (closed is name (opened.out (clean is).0)).out;
    };
  }

-- what became of the file on the disk became of the file of this name
module _ {D : Type 0} (disks : Ghosts D) (old new : Files) (name : List ℕ) (disk disk' : D) (v : IsVisitedAs disks old new name disk disk') where
  pub keeps_in : (run : KeptRun) (t : Streams) → KeepsLines run t (HasKeptFaith disks disk') (change_on disks disk disk') → KeepsLines run t (IsTrue new.is_clean) (change_of old new name)
  keeps_in run t x = record {
    at_end = x.at_end;
    answers = λ is. behind (change_on disks disk disk') (change_of old new name) (v.change is) run t (x.answers (v.faith is));
    durable = λ is. durable (change_on disks disk disk') (change_of old new name) (v.change is) (x.durable (v.faith is));
  }

  untaken : (run : KeptRun) (in_use : Type 0) → ⊥ ⊎ (HasKeptFaith disks disk' → IsUntaken run (disks.seen disk)) → in_use ⊎ (IsTrue new.is_clean → IsUntaken run (old.bytes name))
  untaken run in_use (inl never) = absurd never
  untaken run in_use (inr why) = inr (λ is. subst (IsUntaken run) (sym (v.change is).was) (why (v.faith is)))

  pub unkept_in : (run : KeptRun) (t : Streams) (mixes mixes' in_use : Type 0) (status : ℕ) → (mixes' → mixes) → IsUnkept run t mixes ⊥ (HasKeptFaith disks disk') (change_on disks disk disk') status
      → IsUnkept run t mixes' in_use (IsTrue new.is_clean) (change_of old new name) status
  unkept_in run t mixes mixes' in_use status more x = record {
    refused = λ two.
        let r = x.refused two in
        (r.0, r.1, (λ is. as_it_was (change_on disks disk disk') (change_of old new name) (v.change is) (r.2 (v.faith is))), untaken run in_use r.3);
    front = λ is. front_or (change_on disks disk disk') (change_of old new name) (v.change is) run t mixes mixes' more (x.front (v.faith is));
  }

  pub safe_in : (mixes : Type 0) → IsSafe mixes (HasKeptFaith disks disk') (change_on disks disk disk') → IsSafe mixes (IsTrue new.is_clean) (change_of old new name)
  safe_in mixes x is = safe_or (change_on disks disk disk') (change_of old new name) (v.change is) mixes mixes (λ m. m) (x (v.faith is))

  pub begun_in : (first : List ℕ) → (HasKeptFaith disks disk' → IsBegun first (change_on disks disk disk')) → IfKept new (IsBegun first (change_of old new name))
  begun_in first x is = begun (change_on disks disk disk') (change_of old new name) (v.change is) first (x (v.faith is))

  pub carries_in : (digest : Option (List ℕ)) (mixes : Type 0) (next : NextHub) → IsTrue new.is_clean → (HasKeptFaith disks disk' → CarriesBooks digest mixes next (change_on disks disk disk'))
      → CarriesBooks digest mixes next (change_of old new name)
  carries_in digest mixes next is x = carries_books (change_on disks disk disk') (change_of old new name) (v.change is) digest mixes mixes next (λ m. m) (x (v.faith is))

-- nothing happened to it
module _ (old new : Files) (same : IsUntouched old new) where
  pub others_untouched : (name : List ℕ) → OthersStay old new name
  others_untouched name is other apart = same.all is other

  pub in_untouched : AllAreIn old → AllAreIn new
  in_untouched all is = same.out is ∙ all (same.clean is)

  pub unkept_untouched : (run : KeptRun) (t : Streams) (mixes in_use : Type 0) (name : List ℕ) (status : ℕ) → t.unread → t.unwritten
      → (status ≡ 2 → in_use ⊎ (IsTrue new.is_clean → IsUntaken run (old.bytes name))) → IsUnkept run t mixes in_use (IsTrue new.is_clean) (change_of old new name) status
  unkept_untouched run t mixes in_use name status unread unwritten why =
      record { refused = λ two. (unread, unwritten, (λ is. same.all is name), why two); front = λ is. inl (unread, unwritten, same.all is name) }

-- all files stay, if this one does and the others do
pub all_stay : (old new : Files) (name : List ℕ) → OthersStay old new name → IfKept new (IsAsItWas (change_of old new name)) → Stay old new
all_stay old new name others stays is other =
    elim (text_tells other name) [
      | inl same ↦ subst (λ (n : List ℕ). IsAsItWas (change_of old new n)) (sym same) (stays is)
      | inr apart ↦ others is other apart
    ]
