-- A whole run of a hub with a log.
use Rattle.std.proofs.Common.{◌≡◌, inl, inr, ℕ, List, [], ◌++◌, Option, length, take, drop, append_assoc, length-append, take-append-drop, refl, sym, ◌∙◌, ap, subst, arith}
use Rattle.std.proofs.lemmas.List.{append-nil, take_at}
use Rattle.std.specs.Io.KnownBytes.{Appends}
use Rattle.inst_lines.specs.declared.mode.Mode.{Mode}
use Rattle.inst_world.specs.Headline.{KeepsTheHeadline}
use Rattle.inst_lines.specs.Answering.{HubPast}
use Rattle.inst_lines.specs.Headline.{run_through}
use Rattle.inst_base.proofs.Streams.{Consumes-keeps, Appends-append, Keeps-same}
use Rattle.inst_log.specs.Layout.{recovered_lines}
use Rattle.inst_log.specs.Opening.{lines_after_settings, Begins, IsSameOrBegun}
use Rattle.inst_log.specs.Serving.{Covers, Replies, Tells, TellsKept, SaysOn}
use Rattle.inst_log.specs.inner.Serving.{TellsFront}
use Rattle.inst_log.specs.declared.recorder.Recorder.{Recorder}
use Rattle.inst_log.proofs.ToldRepliesAreKept.{run_kept}
use Rattle.sqlite_disk.specs.declared.Disk.{Ghosts}
use Rattle.inst_chain.specs.Chain.{said, kept_said}
use Rattle.inst_chain.specs.declared.digest.Digest.{Digest}
use Rattle.inst_chain.proofs.LinesWithoutMarks.{said-append}
use Rattle.inst_logged.specs.Answering.{SaysLines, replies_at, past_after, told_count}
use Rattle.inst_logged.specs.Logged.{AreReplies, unsent_replies_at, HasLogged, SurvivesACrash}
use Rattle.inst_logged.specs.inner.Logged.{IsInput, CameIn, ServedOn, KeptOn}
use Rattle.inst_logged.specs.Running.{StopsBy}
use Rattle.inst_logged.specs.declared.error.LoggedError.{LoggedError}
use Rattle.inst_logged.specs.declared.hub.LoggedHub.{LoggedHub}
use Rattle.inst_logged.specs.declared.line_answers.LineAnswers.{LineAnswers}
use Rattle.inst_logged.proofs.AnswersToLogLines.{said_said, replies_said}
use Rattle.inst_logged.proofs.Debt.{kept_is}
use Rattle.inst_logged.proofs.FailuresOfLoggedHub.{failed_so}

-- a file with the same lines begins with the same ones, and so does one that has the first ones alone
begins_same : (header file c : List ℕ) → Begins header file → recovered_lines c ≡ recovered_lines file → Begins header c
begins_same header file c begins same = subst (λ (ls : List (List ℕ)). ls ≡ recovered_lines header ++ drop (length (recovered_lines header)) ls) (sym same) begins

begins_first : (header c : List ℕ) → recovered_lines c ≡ recovered_lines header → Begins header c
begins_first header c same =
    same ∙ sym (append-nil (recovered_lines header)) ∙ ap (λ (ls : List (List ℕ)). recovered_lines header ++ ls) (sym (kept_is header c [] (same ∙ sym (append-nil (recovered_lines header)))))

pub begins_still : (header file c : List ℕ) → Begins header file → IsSameOrBegun header file c → Begins header c
begins_still header file c begins (inl same) = begins_same header file c begins same
begins_still header file c begins (inr first) = begins_first header c first.1

-- and one with further lines behind those of a log that was opened
pub begins_behind : (says : Replies → Type 0) (header : List ℕ) (first here read : List (List ℕ)) (told : List ℕ) (c : List ℕ) → here ≡ recovered_lines header ++ first
    → Covers says here read told (recovered_lines c) → Begins header c
begins_behind says header first here read told c same k =
    let all : recovered_lines c ≡ recovered_lines header ++ (first ++ take k.n read) =
    k.lines ∙ ap (λ (ls : List (List ℕ)). ls ++ take k.n read) same ∙ append_assoc (recovered_lines header) first (take k.n read) in
    all ∙ ap (λ (ls : List (List ℕ)). recovered_lines header ++ ls) (sym (kept_is header c (first ++ take k.n read) all))

-- where less was still, and less is known of room, nothing else changes
pub ends_still : {D : Type 0} (disks : Ghosts D) (told : Option ℕ) (wanted : Option Digest) (old new : LoggedHub D) (still still' no_room : Type 0) (e : LoggedError) → (still → still')
    → StopsBy disks told wanted old new still ⊥ e → StopsBy disks told wanted old new still' no_room e
ends_still disks told wanted old new still still' no_room e more x = record {
  refused = λ r. let is = x.refused r in (more is.0, is.1);
  begun = λ faith. elim (x.begun faith) [ inl is ↦ inl (more is.0, is.1) | inr taken ↦ inr taken ];
  cause = x.cause;
  failure = λ faith. failed_so _ _ ⊥ no_room _ _ e (λ is. is) (λ no. absurd no) (λ is. is) (x.failure faith);
}

module _ (mode : Mode) (past : HubPast) (header : List ℕ) (told : Option ℕ) (file : List ℕ) where
  -- the lines that were in the log, with marks among them and without
  abbrev pub first : List (List ℕ)
  first = lines_after_settings header file

  abbrev pub debt : Replies
  debt = unsent_replies_at mode past (kept_said header file) (told_count told (kept_said header file))

  -- marks have no replies
  debt_said : (lines : List (List ℕ)) → debt (said lines) ≡ debt lines
  debt_said lines =
      let n = length (replies_at mode past (take (told_count told (kept_said header file)) (kept_said header file))) in
      let before = kept_said header file in
      let same : said (before ++ said lines) ≡ said (before ++ lines) =
      said-append before (said lines) ∙ ap (λ (ls : List (List ℕ)). said before ++ ls) (said_said lines) ∙ sym (said-append before lines) in
      ap (drop n) (sym (replies_said mode past (before ++ said lines)) ∙ ap (replies_at mode past) same ∙ replies_said mode past (before ++ lines))

  -- nothing was read yet
  pub survives_none : (may_leave : List ℕ → Type 0) (left before now : Option (List ℕ)) → TellsFront (AreReplies debt) [] before now
      → ((c : List ℕ) → may_leave c → lines_after_settings header c ≡ first) → SurvivesACrash mode past header told file may_leave left left before now
  survives_none may_leave left before now part same = record {
    bytes = [];
    consumes = Consumes-keeps left left (Keeps-same left);
    lines = [];
    lines_are = inl refl;
    kept = record {
      told = part.told;
      handed = part.handed;
      kept = λ c may. record {
        n = 0;
        few = omega arith;
        lines = ap said (same c may) ∙ sym (append-nil (kept_said header file));
        covers = part.front;
      };
    };
  }

  -- what covers lines with marks covers those without
  said_kept : (may_leave : List ℕ → Type 0) (lines : List (List ℕ)) (before after : Option (List ℕ)) → TellsKept (lines_after_settings header) may_leave (AreReplies debt) first lines before after
      → TellsKept (kept_said header) may_leave (AreReplies debt) (kept_said header file) (said lines) before after
  said_kept may_leave lines before after t = record {
    told = t.told;
    handed = t.handed;
    kept = λ c may.
        let k = t.kept c may in
        let done = said (take k.n lines) in
        let split : said lines ≡ done ++ said (drop k.n lines) = ap said (sym (take-append-drop k.n lines)) ∙ said-append (take k.n lines) (drop k.n lines) in
        let front : take (length done) (said lines) ≡ done = ap (take (length done)) split ∙ take_at done (said (drop k.n lines)) (length done) refl in
        let (rest, covers) = k.covers debt (λ ls. refl) in
        record {
          n = length done;
          few = omega (arith, ap length split, length-append done (said (drop k.n lines)));
          lines = ap said k.lines ∙ said-append first (take k.n lines) ∙ ap (λ (ls : List (List ℕ)). kept_said header file ++ ls) (sym front);
          covers = λ f are. (rest, are (take (length done) (said lines)) ∙ ap debt front ∙ debt_said (take k.n lines) ∙ covers);
        };
  }

  -- behind a log that was opened
  pub survives_more : (may_leave : List ℕ → Type 0) (mid : Replies → Type 0) (left left' before at after : Option (List ℕ)) (here : List (List ℕ)) → SaysOn (AreReplies debt) [] mid
      → Tells (AreReplies debt) [] before at → here ≡ recovered_lines header ++ first → KeptOn may_leave (CameIn left left') mid here at after
      → SurvivesACrash mode past header told file may_leave left left' before after
  survives_more may_leave mid left left' before at after here on tells same k = record {
    bytes = k.came.bytes;
    consumes = k.came.consumes;
    lines = k.came.read;
    lines_are = k.came.read_are;
    kept = subst (λ (ls : List (List ℕ)). TellsKept (kept_said header) may_leave (AreReplies debt) (kept_said header file) ls before after) k.came.lines_are
        (said_kept may_leave k.lines before after (run_kept (AreReplies debt) first header may_leave mid before at after here k.lines on tells same k.kept));
  }

  -- all is answered
  pub logs_all : {D : Type 0} (seen : D → List ℕ) (may_leave : D → List ℕ → Type 0) (clean : Type 0) (old new : Recorder D LineAnswers) (left left' before at after : Option (List ℕ))
      → SaysOn (AreReplies debt) [] (SaysLines old.answers.mode old.answers.runner) → Tells (AreReplies debt) [] before at → recovered_lines (seen old.log.disk) ≡ recovered_lines header ++ first
      → ServedOn seen may_leave clean (IsInput left left') old new at after → clean → ((lines : List (List ℕ)) → KeepsTheHeadline past.settings (run_through (past_after mode past lines)))
      → HasLogged mode past header told file (seen new.log.disk) left left' before after
  logs_all seen may_leave clean old new left left' before at after on tells same v is headline =
      let (g, said_g, goes) = on debt (λ lines. refl) in
      let all : debt v.lines ≡ tells.told ++ v.tells.told =
      goes v.lines ∙ ap (λ (l : List ℕ). l ++ g v.lines) (tells.whole debt (λ lines. refl)) ∙ ap (λ (l : List ℕ). tells.told ++ l) (v.tells.whole g said_g) in
      let now : recovered_lines (seen new.log.disk) ≡ recovered_lines header ++ (first ++ v.lines) =
      (v.settled is).1 ∙ ap (λ (ls : List (List ℕ)). ls ++ v.lines) same ∙ append_assoc (recovered_lines header) first v.lines in
      let behind : lines_after_settings header (seen new.log.disk) ≡ first ++ v.lines = kept_is header (seen new.log.disk) (first ++ v.lines) now in
      record {
        bytes = v.came.bytes;
        consumes = v.came.consumes;
        at_end = v.came.at_end;
        begins = now ∙ ap (λ (ls : List (List ℕ)). recovered_lines header ++ ls) (sym behind);
        lines = ap said behind ∙ said-append first v.lines ∙ ap (λ (ls : List (List ℕ)). kept_said header file ++ ls) v.came.lines_are;
        replies = subst (λ (l : List ℕ). Appends before after l) (sym all ∙ sym (debt_said v.lines) ∙ ap debt v.came.lines_are)
            (Appends-append before at after tells.told v.tells.told tells.handed v.tells.handed);
        headline = headline (lines_after_settings header (seen new.log.disk));
      }
