-- What a hub leaves of the log on a disk that it gives back.
use Rattle.std.proofs.Common.{◌≡◌, ◌∙◌, inl, inr, ◌<◌, length, ◌++◌, [], ℕ, true, List, Option, None, IfSome, IsTrue, Vec, Result, Err, refl, ap, sym, subst}
use Rattle.std.specs.Io.KnownBytes.{IsAtEnd}
use Rattle.std.specs.declared.alloc.Global.{Global}
use Rattle.sqlite_disk.specs.Disk.{Only}
use Rattle.sqlite_disk.specs.declared.Disk.{Ghosts}
use Rattle.inst_settings.specs.Settings.{HubSettings}
use Rattle.inst_journal.specs.History.{History}
use Rattle.inst_world.specs.HasRun.{world_settings}
use Rattle.inst_world.specs.NextOpening.{CanOpenFrom}
use Rattle.inst_lines.specs.declared.mode.Mode.{Mode}
use Rattle.inst_lines.specs.Answering.{HubPast, IsRunnerAt, new_past}
use Rattle.inst_log.specs.Layout.{recovered_lines}
use Rattle.inst_log.specs.Opening.{lines_after_settings, Begins, IsSameOrBegun, OpensAlike}
use Rattle.inst_chain.specs.Chain.{IsHexadecimal}
use Rattle.inst_chain.specs.declared.digest.Digest.{Digest}
use Rattle.inst_logged.specs.declared.version.Version.{Version}
use Rattle.inst_logged.specs.declared.version.Version.TheVariants.{Two}
use Rattle.inst_logged.specs.declared.error.LoggedError.{LoggedError}
use Rattle.inst_logged.specs.declared.hub.LoggedHub.{LoggedHub}
use Rattle.inst_logged.specs.declared.hub.new_hub.NewHub.{NewHub}
use Rattle.inst_logged.specs.NewHub.{IsNewHub}
use Rattle.inst_logged.specs.declared.line_answers.LineAnswers.{LineAnswers}
use Rattle.inst_logged.specs.Answering.{opened_from, past_after, AreBooksAfter}
use Rattle.inst_logged.specs.Closing.{ClosesWith}
use Rattle.inst_logged.specs.Header.{header, header_from}
use Rattle.inst_logged.specs.LineAnswers.{HasOpened}
use Rattle.inst_logged.specs.Marking.{IsIntact}
use Rattle.inst_logged.specs.Logged.{HasBegun, HasLogged, IsUnbegun, SurvivesACrash}
use Rattle.inst_logged.specs.Refused.{IsCause, IsRefused, IsLogTaken}
use Rattle.inst_log.specs.Disks.{HasKeptFaith, HasSameFile}
use Rattle.inst_logged.specs.Running.{disk_of, file_of, HasGone, HasNoRoom, IsReadyHub, SurvivesEachCrash, OpensLogAgain, RunsThrough, StaysAlike, StopsBy}
use Rattle.inst_logged.specs.Streams.{Streams}
use Rattle.inst_program.specs.Files.{Change, IsAsItWas, MayBe, change_on}
use Rattle.inst_program.specs.Keeping.{AnswersAFront, AsksFor, CarriesBooks, IsAtMost, IsBeginning, IsBegun, IsLogOfAHub, IsSafe, IsSpared, IsSparedLog, IsTakenFor, IsUntaken, KeepsLines, KeptRun, NextHub}
use Rattle.inst_program.specs.Auditing.{IsClosedAs}
use Rattle.inst_program.specs.Keeping.IsUntaken.{Foreign}
use Rattle.inst_logged.specs.Finding.{Unrefused}
use Rattle.inst_program.specs.inner.ExitReason.{IsUnkept}
use Rattle.inst_program.specs.inner.Finding.{FindsGood}
use Rattle.inst_program.proofs.CausesOfUntakenLog.{untaken_by}

-- a disk that was only read
module _ {D : Type 0} (disks : Ghosts D) where
  pub left_as_it_was : (a b : D) → HasSameFile disks a b → IsAsItWas (change_on disks a b)
  left_as_it_was a b x = record { same = x.same; crash = x.crash }

  pub left_behind : (a b c : D) → HasSameFile disks a b → HasSameFile disks b c → HasSameFile disks a c
  left_behind a b c x y = record { same = y.same ∙ x.same; crash = λ file may. x.crash file (y.crash file may) }

  -- what the disk's file is, or a crash makes of it, a crash might have left before
  pub left_at_once : ((d : D) → disks.may_leave d (disks.seen d)) → (was a b : D) → HasSameFile disks a b → (file : List ℕ) → MayBe (change_on disks was b) file → disks.may_leave a file
  left_at_once stay was a b x file (inl now) = subst (disks.may_leave a) (sym (now ∙ x.same)) (stay a)
  left_at_once stay was a b x file (inr may) = x.crash file may

  pub left_equal : (a b : D) → b ≡ a → HasSameFile disks a b
  left_equal a b same = subst (λ (d : D). HasSameFile disks a d) (sym same) (record { same = refl; crash = λ file may. may })

-- a hub that has answered nothing may run on a disk on which reads return what is on it
pub ready_on : {D : Type 0} (disks : Ghosts D) (hub : LoggedHub D) (disk : D) → IsUnbegun hub.version hub.header.items hub.marker hub.intake → disk_of hub ≡ disk → IsTrue (disks.is_usable disk)
    → Only (disks.seen disk) (disks.may_leave disk) → IsReadyHub disks hub
ready_on {D} disks hub disk unbegun same usable known = record {
  unbegun = unbegun;
  usable = subst (λ (d : D). IsTrue (disks.is_usable d)) (sym same) usable;
  known = λ clean. subst (λ (d : D). Only (disks.seen d) (disks.may_leave d)) (sym same) known;
}

pub unrefused_at : {V : Type 0} (P : V → Type 0) (r : Result V LoggedError) (e : LoggedError) → Unrefused P r → r ≡ Err e → ¬ (IsRefused e)
unrefused_at P r e is failed = subst (Unrefused P) failed is

-- a hub began so
begun : (version : Version) (mode : Mode) (s : HubSettings) (first : List ℕ) (answers : LineAnswers) → HasBegun version mode s first answers →
    (past : HubPast) × IsBeginning version mode s past first × HasOpened mode past answers
begun version mode s first answers (inl (has, is)) = (new_past s, inl (refl, is), has)
begun version mode s first answers (inr (journals, previous, can, digits, has, is)) = (opened_from s journals, inr (journals, previous, can, digits, refl, is), has)

-- It was found by its log, on a disk that was only read, and then it has the disk: `hub` before a run and `after` behind it,
-- when only reads followed.
module _ {D : Type 0} (disks : Ghosts D) (run : KeptRun) (hub after : LoggedHub D) (disk disk' : D)
    (has : HasBegun hub.version run.mode run.settings hub.header.items hub.recorder.answers)
    (left : HasSameFile disks disk (disk_of hub)) (left' : HasSameFile disks (disk_of after) disk') (stay : (d : D) → disks.may_leave d (disks.seen d)) where
  abbrev went : HubPast
  went = (begun hub.version run.mode run.settings hub.header.items hub.recorder.answers has).0

  of_mode : hub.recorder.answers.mode ≡ run.mode
  of_mode = (begun hub.version run.mode run.settings hub.header.items hub.recorder.answers has).2.mode_is

  has_gone : HasGone hub went
  has_gone = subst (λ (m : Mode). IsRunnerAt m went hub.recorder.answers.runner) (sym of_mode) (begun hub.version run.mode run.settings hub.header.items hub.recorder.answers has).2.keeps

  abbrev Fresh : Type 0
  Fresh = recovered_lines (disks.seen disk) ≡ [] → (hub.version ≡ Two) × (hub.header.items ≡ header Two run.mode run.settings)

  abbrev There : Type 0
  There = run.resume ≡ true → 0 < length (recovered_lines (disks.seen disk))

  taken_for : (wanted : Option Digest) → AsksFor run.digest wanted → Fresh → There → IsLogTaken hub.version hub.header.items run.told wanted (file_of disks hub)
      → IsTakenFor run (disks.seen disk) hub.version went hub.header.items
  taken_for wanted asked fresh there taken = record {
    begins = (begun hub.version run.mode run.settings hub.header.items hub.recorder.answers has).1;
    fresh = fresh;
    there = there;
    wanted = wanted;
    asked = asked;
    taken = subst (IsLogTaken hub.version hub.header.items run.told wanted) left.same taken;
  }

  module _ (wanted : Option Digest) (asked : AsksFor run.digest wanted) (fresh : HasKeptFaith disks (disk_of hub) → Fresh) (there : HasKeptFaith disks (disk_of hub) → There)
      (faithful : HasKeptFaith disks (disk_of after) → HasKeptFaith disks (disk_of hub)) (faithful' : HasKeptFaith disks disk' → HasKeptFaith disks (disk_of after)) (t : Streams) where
    pub keeps_lines : IsAtEnd t.left' → (HasKeptFaith disks (disk_of after) → RunsThrough disks run.told wanted hub after t)
        → KeepsLines run t (HasKeptFaith disks disk') (change_on disks disk disk')
    keeps_lines at_end ran = record {
      at_end = at_end;
      answers = λ is.
          let r = ran (faithful' is) in
          let was = faithful (faithful' is) in
          let logged = subst (λ (m : Mode). HasLogged m went hub.header.items run.told (file_of disks hub) (file_of disks after) t.left t.left' t.held t.held') of_mode (r.logged went has_gone) in
          let logged' = subst (λ (file : List ℕ). HasLogged run.mode went hub.header.items run.told file (file_of disks after) t.left t.left' t.held t.held') left.same logged in
          record {
            version = hub.version;
            past = went;
            first = hub.header.items;
            taken = taken_for wanted asked (fresh was) (there was) r.taken;
            intact = subst (λ (file : List ℕ). IsIntact hub.version file) (sym left'.same) r.intact;
            logged = subst (λ (file : List ℕ). HasLogged run.mode went hub.header.items run.told (disks.seen disk) file t.left t.left' t.held t.held') (sym left'.same) logged';
          };
      durable = λ is file may. (ran (faithful' is)).settled.durable file (left'.crash file may) ∙ sym left'.same;
    }

    front_on : HasKeptFaith disks disk' → SurvivesEachCrash disks run.told hub after t → IsLogTaken hub.version hub.header.items run.told wanted (file_of disks hub)
        → AnswersAFront run t ((d : D) → IsTrue (disks.is_mixing d)) (change_on disks disk disk')
    front_on is kept taken =
        let was = faithful (faithful' is) in
        let survives = subst (λ (file : List ℕ). SurvivesACrash run.mode went hub.header.items run.told file (disks.may_leave (disk_of after)) t.left t.left' t.held t.held') left.same
        (subst (λ (m : Mode). SurvivesACrash m went hub.header.items run.told (file_of disks hub) (disks.may_leave (disk_of after)) t.left t.left' t.held t.held') of_mode (kept.survives went has_gone)) in
        let k = survives.kept in
        record {
          version = hub.version;
          past = went;
          first = hub.header.items;
          taken = taken_for wanted asked (fresh was) (there was) taken;
          survives = record {
            bytes = survives.bytes;
            consumes = survives.consumes;
            lines = survives.lines;
            lines_are = survives.lines_are;
            kept = record { told = k.told; handed = k.handed; kept = λ file may. k.kept file (left_at_once disks stay disk (disk_of after) disk' left' file may) };
          };
          begins = λ begins file may.
              kept.begins (subst (λ (f : List ℕ). Begins hub.header.items f) (sym left.same) begins) file (left_at_once disks stay disk (disk_of after) disk' left' file may);
          intact = λ mixes intact file may.
              kept.intact mixes (subst (λ (f : List ℕ). IsIntact hub.version f) (sym left.same) intact) file (left_at_once disks stay disk (disk_of after) disk' left' file may);
        }

    as_before : HasSameFile disks (disk_of hub) (disk_of after) → IsAsItWas (change_on disks disk disk')
    as_before x = left_as_it_was disks disk disk' (left_behind disks disk (disk_of after) disk' (left_behind disks disk (disk_of hub) (disk_of after) left x) left')

    -- a log that the hub refused isn't taken, whichever hub it is of
    untaken_on : (HasKeptFaith disks (disk_of hub) → IsAtMost run (disks.seen disk) hub.version hub.header.items)
        → (e : LoggedError) → IsRefused e → StopsBy disks run.told wanted hub after (t.unread × t.unwritten) (HasNoRoom disks after t.left t.left') e → HasKeptFaith disks disk' → IsUntaken run (disks.seen disk)
    untaken_on finds e is_refused stops is =
        untaken_by run (disks.seen disk) hub.version hub.header.items (finds (faithful (faithful' is))) wanted asked e is_refused
        (subst (λ (file : List ℕ). IsCause hub.version hub.header.items run.told wanted file e) left.same (stops.cause (faithful' is)))

    pub unkept_on : (e : LoggedError) (status : ℕ) → (status ≡ 2 → IsRefused e)
        → (HasKeptFaith disks (disk_of hub) → IsAtMost run (disks.seen disk) hub.version hub.header.items)
        → StopsBy disks run.told wanted hub after (t.unread × t.unwritten) (HasNoRoom disks after t.left t.left') e
        → (HasKeptFaith disks (disk_of after) → SurvivesEachCrash disks run.told hub after t)
        → IsUnkept run t ((d : D) → IsTrue (disks.is_mixing d)) ⊥ (HasKeptFaith disks disk') (change_on disks disk disk') status
    unkept_on e status refusal finds stops kept = record {
      refused = λ two.
          let r = stops.refused (refusal two) in
          (r.0.0, r.0.1, (λ _. as_before r.1), inr (untaken_on finds e (refusal two) stops));
      front = λ is.
          elim (stops.begun (faithful' is)) [
            | inl still ↦ inl (still.0.0, still.0.1, as_before still.1)
            | inr taken ↦ inr (front_on is (kept (faithful' is)) taken)
          ];
    }

-- A hub with a log was opened or closed: `hub` before, `after` behind it.
module _ {D : Type 0} (disks : Ghosts D) (mode : Mode) (s : HubSettings) (hub after : LoggedHub D) (disk disk' : D)
    (has : HasBegun hub.version mode s hub.header.items hub.recorder.answers)
    (left : HasSameFile disks disk (disk_of hub)) (left' : HasSameFile disks (disk_of after) disk') (stay : (d : D) → disks.may_leave d (disks.seen d)) where
  -- what the log's file is, or a crash makes of it
  at_once : (file : List ℕ) → MayBe (change_on disks disk disk') file → disks.may_leave (disk_of after) file
  at_once = left_at_once disks stay disk (disk_of after) disk' left'

  abbrev mixes_all : Type 0
  mixes_all = (d : D) → IsTrue (disks.is_mixing d)

  abbrev gone : HubPast
  gone = (begun hub.version mode s hub.header.items hub.recorder.answers has).0

  same_mode : hub.recorder.answers.mode ≡ mode
  same_mode = (begun hub.version mode s hub.header.items hub.recorder.answers has).2.mode_is

  has_gone_so : HasGone hub gone
  has_gone_so = subst (λ (m : Mode). IsRunnerAt m gone hub.recorder.answers.runner) (sym same_mode) (begun hub.version mode s hub.header.items hub.recorder.answers has).2.keeps

  spared_on : StaysAlike disks hub after → IsSpared hub.version hub.header.items mixes_all (change_on disks disk disk')
  spared_on stays = record {
    alike = λ file may. subst (λ (f : List ℕ). OpensAlike hub.header.items f file) left.same (stays.alike file (at_once file may));
    stands = λ file may. subst (λ (f : List ℕ). IsSameOrBegun hub.header.items f file) left.same (stays.stands file (at_once file may));
    intact = λ mixes intact file may. stays.intact mixes (subst (λ (f : List ℕ). IsIntact hub.version f) (sym left.same) intact) file (at_once file may);
  }

  abbrev log_on : (wanted : Option Digest) → IsLogTaken hub.version hub.header.items None wanted (file_of disks hub) → IsLogOfAHub wanted (disks.seen disk)
  log_on wanted taken = record {
    version = hub.version;
    mode = mode;
    settings = s;
    past = gone;
    first = hub.header.items;
    begins = (begun hub.version mode s hub.header.items hub.recorder.answers has).1;
    taken = subst (IsLogTaken hub.version hub.header.items None wanted) left.same taken;
  }

  spared_log_on : (wanted : Option Digest) → StaysAlike disks hub after → IsLogTaken hub.version hub.header.items None wanted (file_of disks hub)
      → IsSparedLog mixes_all (change_on disks disk disk')
  spared_log_on wanted stays taken = record { wanted = wanted; log = log_on wanted taken; spared = spared_on stays }

  pub safe_on : (faith : Type 0) (wanted : Option Digest) (e : LoggedError) → (faith → HasKeptFaith disks (disk_of after)) → StopsBy disks None wanted hub after (Unit {0}) ⊥ e
      → (HasKeptFaith disks (disk_of after) → StaysAlike disks hub after) → IsSafe mixes_all faith (change_on disks disk disk')
  safe_on faith wanted e faithful stops stays is =
      elim (stops.begun (faithful is)) [
        | inl still ↦ inl (left_as_it_was disks disk disk' (left_behind disks disk (disk_of after) disk' (left_behind disks disk (disk_of hub) (disk_of after) left still.1) left'))
        | inr taken ↦ inr (spared_log_on wanted (stays (faithful is)) taken)
      ]

  books_on : (wanted : Option Digest) (journals : List History) → ClosesWith disks wanted hub after journals → AreBooksAfter mode gone (lines_after_settings hub.header.items (disks.seen disk)) journals
  books_on wanted journals closes =
      subst (λ (f : List ℕ). AreBooksAfter mode gone (lines_after_settings hub.header.items f) journals) left.same
      (subst (λ (m : Mode). AreBooksAfter m gone (lines_after_settings hub.header.items (file_of disks hub)) journals) same_mode (closes.are gone has_gone_so))

  settings_on : (wanted : Option Digest) (journals : List History) → ClosesWith disks wanted hub after journals
      → ◌≡◌ {A = NextHub} (record { mode = mode; settings = world_settings after.recorder.answers.runner.world; journals = journals })
      (record { mode = mode; settings = (past_after mode gone (lines_after_settings hub.header.items (disks.seen disk))).settings; journals = journals })
  settings_on wanted journals closes = ap {A = HubSettings} {B = NextHub} (λ u. record { mode = mode; settings = u; journals = journals })
      (subst (λ (f : List ℕ). world_settings after.recorder.answers.runner.world ≡ (past_after mode gone (lines_after_settings hub.header.items f)).settings) left.same
      (subst (λ (m : Mode). world_settings after.recorder.answers.runner.world ≡ (past_after m gone (lines_after_settings hub.header.items (file_of disks hub))).settings) same_mode (closes.settings gone has_gone_so)))

  pub carries_on : (digest : Option (List ℕ)) (wanted : Option Digest) → AsksFor digest wanted → (journals : List History) → 0 < length (recovered_lines (disks.seen disk))
      → ClosesWith disks wanted hub after journals → StaysAlike disks hub after
      → CarriesBooks digest mixes_all (record { mode = mode; settings = world_settings after.recorder.answers.runner.world; journals = journals }) (change_on disks disk disk')
  carries_on digest wanted asked journals there closes stays = record {
    there = there;
    wanted = wanted;
    asked = asked;
    log = log_on wanted closes.taken;
    stays = subst (λ (f : List ℕ). recovered_lines f ≡ recovered_lines hub.header.items ++ lines_after_settings hub.header.items (disks.seen disk)) (sym left'.same)
        (subst (λ (f : List ℕ). recovered_lines (file_of disks after) ≡ recovered_lines hub.header.items ++ lines_after_settings hub.header.items f) left.same closes.lines);
    spared = spared_on stays;
    journals = journals;
    books = books_on wanted journals closes;
    next_is = settings_on wanted journals closes;
  }

  -- the hub was closed after the lines of its log
  pub closed_on : (journals : List History) → ClosesWith disks None hub after journals
      → IsClosedAs (disks.seen disk) (record { mode = mode; settings = world_settings after.recorder.answers.runner.world; journals = journals })
  closed_on journals closes = record {
    log = log_on None closes.taken;
    journals = journals;
    books = books_on None journals closes;
    closed_is = settings_on None journals closes;
  }

  -- a log of version 2 was opened with its first lines
  pub begun_on : hub.version ≡ Two → OpensLogAgain disks None hub after → IsBegun hub.header.items (change_on disks disk disk')
  begun_on two opens =
      let taken = subst (λ (v : Version). IsLogTaken v hub.header.items None None (file_of disks hub)) two opens.taken in
      let intact = subst (λ (v : Version). IsIntact v (file_of disks after)) two opens.intact in
      record {
        taken = subst (IsLogTaken Two hub.header.items None None) left.same taken;
        lines = subst (λ (f : List ℕ). recovered_lines f ≡ recovered_lines hub.header.items ++ lines_after_settings hub.header.items (disks.seen disk)) (sym left'.same)
            (subst (λ (f : List ℕ). recovered_lines (file_of disks after) ≡ recovered_lines hub.header.items ++ lines_after_settings hub.header.items f) left.same opens.lines);
        intact = subst (IsIntact Two) (sym left'.same) intact;
        durable = λ file may. opens.settled.durable file (left'.crash file may) ∙ sym left'.same;
      }

-- a hub with the disk of its log began as it did without
pub begun_with : (version version' : Version) (mode : Mode) (s : HubSettings) (head head' : Vec ℕ Global) (answers answers' : LineAnswers) → version' ≡ version → head' ≡ head → answers' ≡ answers
    → HasBegun version mode s head.items answers → HasBegun version' mode s head'.items answers'
begun_with version version' mode s head head' answers answers' versions heads all has =
    subst (λ (v : Version). HasBegun v mode s head'.items answers') (sym versions)
    (subst (λ (a : LineAnswers). HasBegun version mode s head'.items a) (sym all) (subst (λ (h : Vec ℕ Global). HasBegun version mode s h.items answers) (sym heads) has))

-- nothing was done but read, since no hub of a good log was found
pub unkept_at_once : (run : KeptRun) (t : Streams) (mixes faith : Type 0) (c : Change) (result : Result NewHub LoggedError) (e : LoggedError) (status : ℕ) → t.unread → t.unwritten → IsAsItWas c
    → (faith → FindsGood run.mode run.settings run.resume c.was result) → result ≡ Err e → (status ≡ 2 → IsRefused e) → IsUnkept run t mixes ⊥ faith c status
unkept_at_once run t mixes faith c result e status unread unwritten same finds failed refusal = record {
  refused = λ two. (unread, unwritten, (λ _. same), inr (λ is. Foreign (λ version first log. unrefused_at _ result e (finds is version first log) failed (refusal two))));
  front = λ _. inl (unread, unwritten, same);
}

-- a hub that opens from these journals began so
pub begun_new : (mode : Mode) (s : HubSettings) (journals : List History) (previous : Option Digest) (hub : NewHub) → CanOpenFrom s journals → IfSome previous IsHexadecimal
    → IsNewHub Two mode (opened_from s journals) (header_from Two mode s journals previous) hub → HasBegun hub.version mode s hub.heading.batch.items hub.answers
begun_new mode s journals previous hub can digits new =
    subst (λ (v : Version). HasBegun v mode s hub.heading.batch.items hub.answers) (sym new.version_is) (inr (journals, previous, can, digits, new.opened, new.first_is))
