-- What is owed for lines that are answered again.
use Rattle.std.proofs.Common.{◌≡◌, inl, inr, ℕ, false, ◌+◌, ◌-◌, ◌<◌, ◌≤◌, Option, None, Some, List, [], ◌++◌, length, take, drop, append_assoc, length-append, take-append-drop, refl, sym, ◌∙◌, ap, subst, arith}
use Rattle.std.proofs.lemmas.List.{append-nil, drop_all, drop_at, drop-drop, drop-append-le, take_all, take_at, take-append-le}
use Rattle.std.proofs.Math.Seq.{take-append-add}
use Rattle.std.proofs.lemmas.Bool.{cases_lt}
use Rattle.std.specs.Io.KnownBytes.{Appends}
use Rattle.inst_base.specs.Handing.{WritesPart}
use Rattle.inst_base.proofs.Streams.{Appends-append, Appends-keeps, Keeps-same}
use Rattle.inst_agenda.specs.declared.runner.Runner.{Runner}
use Rattle.inst_lines.specs.declared.mode.Mode.{Mode}
use Rattle.inst_lines.specs.Answering.{HubPast, IsRunnerAt}
use Rattle.inst_log.specs.Layout.{recovered_lines, blocks, IsBatch}
use Rattle.inst_log.specs.Opening.{lines_after_settings, Begins}
use Rattle.inst_log.specs.Pieces.{IsReading, has_more}
use Rattle.inst_log.specs.declared.file_lines.FileLines.{FileLines}
use Rattle.inst_log.proofs.Pieces.{file_lines, all_cut, through, header_split, header_lines, header_end}
use Rattle.inst_log.specs.inner.Serving.{TellsFront}
use Rattle.inst_chain.specs.Chain.{said}
use Rattle.inst_chain.proofs.LinesWithoutMarks.{said-append}
use Rattle.inst_logged.specs.Answering.{replies_at, past_after, told_count}
use Rattle.inst_logged.specs.Logged.{AreReplies, unsent_replies_at}
use Rattle.inst_logged.specs.inner.Answering.{AnswersLines, AnswersFirst, AnswersAgain, debt, left_of}
use Rattle.inst_logged.specs.inner.Replaying.{IsReplayed}
use Rattle.inst_logged.proofs.AnswersToLogLines.{replies-append, past-append, replies_said, past_said}

abbrev Lines : Type 0
Lines = List (List ℕ)

drop_past : (a x : List ℕ) (m : ℕ) → drop (length a + m) (a ++ x) ≡ drop m x
drop_past a x m =
    let swap : length a + m ≡ m + length a = omega arith in
    ap (λ (n : ℕ). drop n (a ++ x)) swap ∙ split ∙ ap (drop m) (drop_at a x (length a) refl)
  where
    split : drop (m + length a) (a ++ x) ≡ drop m (drop (length a) (a ++ x))
    split =
        let swap : m + length a ≡ length a + m = omega arith in
        ap (λ (n : ℕ). drop n (a ++ x)) swap ∙ sym (drop-drop m (length a) (a ++ x))

module _ (mode : Mode) where
  -- the replies to the first lines come first
  prefix_short : (past : HubPast) (a b : Lines) → length (replies_at mode past a) ≤ length (replies_at mode past (a ++ b))
  prefix_short past a b =
      omega (arith, ap length (replies-append mode past a b), length-append (replies_at mode past a) (replies_at mode (past_after mode past a) b))

  pub take_short : (past : HubPast) (k : ℕ) (lines : Lines) → length (replies_at mode past (take k lines)) ≤ length (replies_at mode past lines)
  take_short past k lines =
      subst (λ (l : Lines). length (replies_at mode past (take k lines)) ≤ length (replies_at mode past l)) (take-append-drop k lines)
      (prefix_short past (take k lines) (drop k lines))

  debt_all : (past : HubPast) (lines : Lines) (k : ℕ) → length (said lines) ≤ k → drop (length (replies_at mode past (take k (said lines)))) (replies_at mode past (said lines)) ≡ []
  debt_all past lines k few =
      ap (λ (ls : Lines). drop (length (replies_at mode past ls)) (replies_at mode past (said lines))) (take_all k (said lines) few)
      ∙ drop_all (length (replies_at mode past (said lines))) (replies_at mode past (said lines)) (omega arith)

  pub debt_none : (past : HubPast) (lines : Lines) → debt mode past None lines ≡ []
  debt_none past lines = debt_all past lines (length (said lines)) (omega arith)

  pub debt_few : (past : HubPast) (lines : Lines) (k : ℕ) → length (said lines) ≤ k → debt mode past (Some k) lines ≡ []
  debt_few past lines k few = debt_all past lines k few

  -- the replies to lines and to others, of which none has a mark
  both_said : (past : HubPast) (d e : Lines) → replies_at mode past (said (d ++ e)) ≡ replies_at mode past (said d) ++ replies_at mode (past_after mode past d) (said e)
  both_said past d e =
      ap (replies_at mode past) (said-append d e) ∙ replies-append mode past (said d) (said e)
      ∙ ap (λ (p : HubPast). replies_at mode past (said d) ++ replies_at mode p (said e)) (past_said mode past d)

  -- all that were told are there
  pub debt_rest : (past : HubPast) (done rest : Lines) (k : ℕ) → length (said done) ≡ k → debt mode past (Some k) (done ++ rest) ≡ replies_at mode (past_after mode past done) rest
  debt_rest past done rest k is =
      let front : take k (said (done ++ rest)) ≡ said done = ap (take k) (said-append done rest) ∙ take_at (said done) (said rest) k is in
      ap (λ (ls : Lines). drop (length (replies_at mode past ls)) (replies_at mode past (said (done ++ rest)))) front
      ∙ ap (drop (length (replies_at mode past (said done)))) (both_said past done rest)
      ∙ drop_at (replies_at mode past (said done)) (replies_at mode (past_after mode past done) (said rest)) (length (replies_at mode past (said done))) refl
      ∙ replies_said mode (past_after mode past done) rest

  debt_within : (past : HubPast) (d e : Lines) (k : ℕ) → k ≤ length (said d)
      → debt mode past (Some k) (d ++ e) ≡ debt mode past (Some k) d ++ debt mode (past_after mode past d) (Some (k - length (said d))) e
  debt_within past d e k within =
      let later = past_after mode past d in
      let n = length (replies_at mode past (take k (said d))) in
      let none : k - length (said d) ≡ 0 = omega (arith, within) in
      let rest : debt mode later (Some (k - length (said d))) e ≡ replies_at mode later (said e) =
      ap (λ (j : ℕ). drop (length (replies_at mode later (take j (said e)))) (replies_at mode later (said e))) none in
      ap (λ (ls : Lines). drop (length (replies_at mode past ls)) (replies_at mode past (said (d ++ e)))) (ap (take k) (said-append d e) ∙ take-append-le k (said d) (said e) within)
      ∙ ap (drop n) (both_said past d e)
      ∙ drop-append-le n (replies_at mode past (said d)) (replies_at mode later (said e)) (take_short past k (said d))
      ∙ ap (λ (l : List ℕ). drop n (replies_at mode past (said d)) ++ l) (sym rest)

  debt_past : (past : HubPast) (d e : Lines) (k : ℕ) → length (said d) ≤ k
      → debt mode past (Some k) (d ++ e) ≡ debt mode past (Some k) d ++ debt mode (past_after mode past d) (Some (k - length (said d))) e
  debt_past past d e k few =
      let later = past_after mode past d in
      let j = k - length (said d) in
      let size : k ≡ length (said d) + j = omega (arith, few) in
      let front : take k (said (d ++ e)) ≡ said d ++ take j (said e) =
      (λ i. take (size i) (said-append d e i)) ∙ take-append-add (said d) (said e) j in
      let all = replies_at mode past (said d) in
      let some = replies_at mode later (take j (said e)) in
      let told : replies_at mode past (said d ++ take j (said e)) ≡ all ++ some =
      replies-append mode past (said d) (take j (said e)) ∙ ap (λ (p : HubPast). all ++ replies_at mode p (take j (said e))) (past_said mode past d) in
      ap (λ (ls : Lines). drop (length (replies_at mode past ls)) (replies_at mode past (said (d ++ e)))) front
      ∙ ap (λ (l : List ℕ). drop (length l) (replies_at mode past (said (d ++ e)))) told
      ∙ (λ i. drop (length-append all some i) (both_said past d e i))
      ∙ drop_past all (replies_at mode later (said e)) (length some)
      ∙ ap (λ (l : List ℕ). l ++ debt mode later (Some j) e) (sym (debt_few past d k few))

  -- lines, and then others
  pub debt-append : (past : HubPast) (told : Option ℕ) (d e : Lines) → debt mode past told (d ++ e) ≡ debt mode past told d ++ debt mode (past_after mode past d) (left_of told d) e
  debt-append past None d e =
      debt_none past (d ++ e) ∙ (λ i. sym (debt_none past d) i ++ sym (debt_none (past_after mode past d) e) i)
  debt-append past (Some k) d e = elim (cases_lt (length (said d)) k) [
    | inl few ↦ debt_past past d e k (omega (arith, few))
    | inr within ↦ debt_within past d e k (omega (arith, within))
  ]

  left-append : (told : Option ℕ) (d e : Lines) → left_of told (d ++ e) ≡ left_of (left_of told d) e
  left-append None d e = refl
  left-append (Some k) d e =
      let size : k - length (said (d ++ e)) ≡ k - length (said d) - length (said e) =
      omega (arith, ap length (said-append d e), length-append (said d) (said e)) in
      ap (λ (n : ℕ). Some n) size

  pub left_start : (told : Option ℕ) → told ≡ left_of told []
  left_start None = refl
  left_start (Some k) = let same : k ≡ k - 0 = omega arith in ap (λ (n : ℕ). Some n) same

  debt_start : (past : HubPast) (told : Option ℕ) → debt mode past told [] ≡ []
  debt_start past None = debt_none past []
  debt_start past (Some k) = debt_few past [] k (omega arith)

  -- no line yet
  pub again_none : (told : Option ℕ) (runner : Runner) (before : Option (List ℕ)) → AnswersAgain mode told told runner runner [] before before
  again_none told runner before = record {
    state = λ past keeps. keeps;
    left_is = left_start told;
    handed = λ past keeps. subst (Appends before before) (sym (debt_start past told)) (Appends-keeps before before (Keeps-same before));
  }

  pub again_more : (told left left' : Option ℕ) (old mid new : Runner) (d e : Lines) (before at after : Option (List ℕ)) (mode' : Mode) → mode' ≡ mode → AnswersAgain mode told left old mid d before at
      → AnswersAgain mode' left left' mid new e at after → AnswersAgain mode told left' old new (d ++ e) before after
  again_more told left left' old mid new d e before at after mode' same a b' =
      let b : AnswersAgain mode left left' mid new e at after = subst (λ (m : Mode). AnswersAgain m left left' mid new e at after) same b' in
      record {
        state = λ past keeps.
            subst (λ (p : HubPast). IsRunnerAt mode p new) (sym (past-append mode past d e)) (b.state (past_after mode past d) (a.state past keeps));
        left_is = b.left_is ∙ ap (λ (o : Option ℕ). left_of o e) a.left_is ∙ sym (left-append told d e);
        handed = λ past keeps.
            let owed_e = ap (λ (o : Option ℕ). debt mode (past_after mode past d) o e) a.left_is in
            subst (Appends before after) (ap (λ (l : List ℕ). debt mode past told d ++ l) owed_e ∙ sym (debt-append past told d e))
            (Appends-append before at after (debt mode past told d) (debt mode (past_after mode past d) left e) (a.handed past keeps) (b.handed (past_after mode past d) (a.state past keeps)));
      }

  -- all lines have been told, and more
  pub again_few : (old new : Runner) (out out' lines : List ℕ) (start count left : ℕ) (before : Option (List ℕ)) → AnswersFirst mode old new out out' lines start count left → 0 < left
      → AnswersAgain mode (Some count) (Some left) old new (recovered_lines lines) before before
  again_few old new out out' lines start count left before f some =
      let all : recovered_lines lines ≡ f.done = f.split ∙ ap (λ (ls : Lines). f.done ++ ls) (f.full some) ∙ append-nil f.done in
      record {
        state = λ past keeps. subst (λ (ls : Lines). IsRunnerAt mode (past_after mode past ls) new) (sym all) (f.answered.state past keeps);
        left_is = ap (λ (n : ℕ). Some n) (f.left_is ∙ ap (λ (ls : Lines). count - length (said ls)) (sym all));
        handed = λ past keeps.
            subst (Appends before before) (sym (ap (debt mode past (Some count)) all ∙ debt_few past f.done count f.few)) (Appends-keeps before before (Keeps-same before));
      }

  -- those that have been told are there, and the others were answered too
  pub rest_out : (past : HubPast) (old mid new : Runner) (out out' out'' lines : List ℕ) (start count left : ℕ) (mode' : Mode) → mode' ≡ mode → IsRunnerAt mode past old → AnswersFirst mode old mid out out' lines start count left → left ≡ 0
      → AnswersLines mode' mid new [] out'' (recovered_lines (drop start lines)) → out'' ≡ debt mode past (Some count) (recovered_lines lines)
  rest_out past old mid new out out' out'' lines start count left mode' same keeps f none rest =
      let later = past_after mode past f.done in
      let r : AnswersLines mode mid new [] out'' (recovered_lines (drop start lines)) = subst (λ (m : Mode). AnswersLines m mid new [] out'' (recovered_lines (drop start lines))) same rest in
      r.replies later (f.answered.state past keeps)
      ∙ sym (debt_rest past f.done (recovered_lines (drop start lines)) count (omega (arith, f.few, f.left_is, none)))
      ∙ ap (debt mode past (Some count)) (sym f.split)

  pub again_rest : (old mid new : Runner) (out out' out'' lines : List ℕ) (start count left : ℕ) (before after : Option (List ℕ)) (mode' : Mode) → mode' ≡ mode → AnswersFirst mode old mid out out' lines start count left → left ≡ 0
      → AnswersLines mode' mid new [] out'' (recovered_lines (drop start lines)) → Appends before after out'' → AnswersAgain mode (Some count) (Some 0) old new (recovered_lines lines) before after
  again_rest old mid new out out' out'' lines start count left before after mode' same f none rest wrote =
      let r : AnswersLines mode mid new [] out'' (recovered_lines (drop start lines)) = subst (λ (m : Mode). AnswersLines m mid new [] out'' (recovered_lines (drop start lines))) same rest in
      let enough : 0 ≡ count - length (said (recovered_lines lines)) =
      omega (arith, f.few, f.left_is, none, ap (λ (ls : Lines). length (said ls)) f.split, ap length (said-append f.done (recovered_lines (drop start lines))), length-append (said f.done) (said (recovered_lines (drop start lines)))) in
      record {
        state = λ past keeps.
            subst (λ (p : HubPast). IsRunnerAt mode p new) (sym (past-append mode past f.done (recovered_lines (drop start lines))) ∙ ap (past_after mode past) (sym f.split))
            (r.state (past_after mode past f.done) (f.answered.state past keeps));
        left_is = ap (λ (n : ℕ). Some n) enough;
        handed = λ past keeps. subst (Appends before after) (rest_out past old mid new out out' out'' lines start count left mode' same keeps f none rest) wrote;
      }

  -- ---- what is owed behind a log's lines

  pub owed_now : (past : HubPast) (told : Option ℕ) (d : Lines) → unsent_replies_at mode past (said d) (told_count told (said d)) [] ≡ debt mode past told d
  owed_now past told d =
      ap (λ (ls : Lines). drop (length (replies_at mode past (take (told_count told (said d)) (said d)))) (replies_at mode past ls)) (append-nil (said d))

  owed_more : (past : HubPast) (told : Option ℕ) (d more : Lines)
      → unsent_replies_at mode past (said d) (told_count told (said d)) more ≡ debt mode past told d ++ replies_at mode (past_after mode past d) more
  owed_more past told d more =
      let n = length (replies_at mode past (take (told_count told (said d)) (said d))) in
      ap (drop n) (replies-append mode past (said d) more ∙ ap (λ (p : HubPast). replies_at mode past (said d) ++ replies_at mode p more) (past_said mode past d))
      ∙ drop-append-le n (replies_at mode past (said d)) (replies_at mode (past_after mode past d) more) (take_short past (told_count told (said d)) (said d))

  enough_told : (told left : Option ℕ) (d : Lines) → left ≡ left_of told d → ((n : ℕ) → left ≡ Some n → n ≡ 0) → told_count told (said d) ≤ length (said d)
  enough_told None left d is none = omega arith
  enough_told (Some k) left d is none = let gone = none (k - length (said d)) is in omega (arith, gone)

  pub too_few : (told left : Option ℕ) (d : Lines) (n : ℕ) → left ≡ left_of told d → left ≡ Some n → 0 < n → length (said d) < told_count told (said d)
  too_few None left d n is some more = absurd (cc (sym is ∙ some))
  too_few (Some k) left d n is some more =
      let same : k - length (said d) ≡ n = some_is (sym is ∙ some) in
      omega (arith, same, more)
    where
      some_is : {a b : ℕ} → Some a ≡ Some b → a ≡ b
      some_is e = cc e

  pub replayed : (told left : Option ℕ) (old new : Runner) (d : Lines) (before after : Option (List ℕ)) → AnswersAgain mode told left old new d before after
      → ((n : ℕ) → left ≡ Some n → n ≡ 0) → IsReplayed mode told old new d before after
  replayed told left old new d before after a none = record {
    enough = enough_told told left d a.left_is none;
    state = a.state;
    tells = λ past keeps. record {
      told = debt mode past told d;
      handed = a.handed past keeps;
      whole = λ f are. are [] ∙ owed_now past told d;
    };
    on = λ past keeps f are. (
      replies_at mode (past_after mode past d),
      record { past = past_after mode past d; keeps = a.state past keeps; are = λ more. refl },
      λ more. are more ∙ owed_more past told d more ∙ ap (λ (l : List ℕ). l ++ replies_at mode (past_after mode past d) more) (sym (are [] ∙ owed_now past told d)),
    );
  }

  -- a part of what is owed
  pub part_of : (past : HubPast) (told : Option ℕ) (first d e : Lines) (part rest : List ℕ) (before now : Option (List ℕ)) → first ≡ said (d ++ e) → debt mode past told (d ++ e) ≡ part ++ rest → Appends before now part
      → TellsFront (AreReplies (unsent_replies_at mode past first (told_count told first))) [] before now
  part_of past told first d e part rest before now is split handed = record {
    told = part;
    handed = handed;
    front = λ f are. (
      rest,
      are [] ∙ ap (λ (ls : Lines). unsent_replies_at mode past ls (told_count told ls) []) is ∙ owed_now past told (d ++ e) ∙ split,
    );
  }

  -- so far
  pub part_so_far : (past : HubPast) (told left : Option ℕ) (old mid : Runner) (first d e : Lines) (before now : Option (List ℕ)) → first ≡ said (d ++ e) → IsRunnerAt mode past old
      → AnswersAgain mode told left old mid d before now → TellsFront (AreReplies (unsent_replies_at mode past first (told_count told first))) [] before now
  part_so_far past told left old mid first d e before now is keeps a =
      part_of past told first d e (debt mode past told d) (debt mode (past_after mode past d) (left_of told d) e) before now is (debt-append past told d e) (a.handed past keeps)

  -- and of the lines that were answered last
  pub part_more : (past : HubPast) (told left : Option ℕ) (old mid : Runner) (first d p e : Lines) (before at now : Option (List ℕ)) (mode' : Mode) → mode' ≡ mode → first ≡ said ((d ++ p) ++ e) → IsRunnerAt mode past old
      → AnswersAgain mode told left old mid d before at → ((later : HubPast) → IsRunnerAt mode' later mid → WritesPart at now (debt mode' later left p)) → TellsFront (AreReplies (unsent_replies_at mode past first (told_count told first))) [] before now
  part_more past told left old mid first d p e before at now mode' same is keeps a parts =
      let later = past_after mode past d in
      let w : WritesPart at now (debt mode later left p) =
      subst (λ (m : Mode). WritesPart at now (debt m later left p)) same (parts later (subst (λ (m : Mode). IsRunnerAt m later mid) (sym same) (a.state past keeps))) in
      let whole : debt mode past told d ++ debt mode later left p ≡ (debt mode past told d ++ w.part) ++ w.rest =
      ap (λ (l : List ℕ). debt mode past told d ++ l) w.whole ∙ sym (append_assoc (debt mode past told d) w.part w.rest) in
      let both : debt mode past told (d ++ p) ≡ (debt mode past told d ++ w.part) ++ w.rest =
      debt-append past told d p ∙ ap (λ (o : Option ℕ). debt mode past told d ++ debt mode later o p) (sym a.left_is) ∙ whole in
      let tail = debt mode (past_after mode past (d ++ p)) (left_of told (d ++ p)) e in
      part_of past told first (d ++ p) e (debt mode past told d ++ w.part) (w.rest ++ tail) before now is
      (debt-append past told (d ++ p) e ∙ ap (λ (l : List ℕ). l ++ tail) both ∙ append_assoc (debt mode past told d ++ w.part) w.rest tail)
      (Appends-append before at now (debt mode past told d) w.part (a.handed past keeps) w.appends)

-- the lines behind a log's first ones
pub kept_is : (header file : List ℕ) (d : Lines) → recovered_lines file ≡ recovered_lines header ++ d → lines_after_settings header file ≡ d
kept_is header file d is =
    ap (drop (length (recovered_lines header))) is ∙ drop_at (recovered_lines header) d (length (recovered_lines header)) refl

-- so far they are those that were read, and then others
pub kept_so_far : (header file : List ℕ) (reader : FileLines) (d : Lines) → IsReading file reader (recovered_lines header ++ d)
    → lines_after_settings header file ≡ d ++ recovered_lines (reader.cutter.held.items ++ drop reader.cutter.at file)
kept_so_far header file reader d r =
    let e = recovered_lines (reader.cutter.held.items ++ drop reader.cutter.at file) in
    kept_is header file (d ++ e) (file_lines file reader.cutter (recovered_lines header ++ d) r.cut ∙ append_assoc (recovered_lines header) d e)

pub kept_at_end : (header file : List ℕ) (reader : FileLines) (d : Lines) → IsReading file reader (recovered_lines header ++ d) → has_more reader ≡ false → lines_after_settings header file ≡ d
kept_at_end header file reader d r no_more =
    kept_is header file d (all_cut file reader.cutter (recovered_lines header ++ d) r.cut (through file reader (recovered_lines header ++ d) r no_more))

-- the first line behind the log's first ones
pub reading_none : (header file : List ℕ) (reader : FileLines) → IsBatch header → Begins header file
    → ((done : Lines) (rest : List ℕ) → file ≡ blocks done ++ rest → recovered_lines (blocks done) ≡ done → length header - 1 ≡ length (blocks done) → IsReading file reader done)
    → IsReading file reader (recovered_lines header ++ [])
reading_none header file reader is begins at =
    let split = header_split header file begins in
    subst (IsReading file reader) (sym (append-nil (recovered_lines header))) (at (recovered_lines header) split.0 split.1 (header_lines header) (header_end header is))

pub reading_more : (header file file' : List ℕ) (old new : FileLines) (d piece : Lines) → file' ≡ file → IsReading file old (recovered_lines header ++ d)
    → ((done : Lines) → IsReading file' old done → IsReading file' new (done ++ piece)) → IsReading file new (recovered_lines header ++ (d ++ piece))
reading_more header file file' old new d piece same r next =
    subst (IsReading file new) (append_assoc (recovered_lines header) d piece)
    (subst (λ (f : List ℕ). IsReading f new ((recovered_lines header ++ d) ++ piece)) same (next (recovered_lines header ++ d) (subst (λ (f : List ℕ). IsReading f old (recovered_lines header ++ d)) (sym same) r)))

-- nothing was handed out where more have been told
pub still_told : (left left' : Option ℕ) (lines : Lines) → left' ≡ left_of left lines → (left' ≡ Some 0 → ⊥) → left ≡ Some 0 → ⊥
still_told None left' lines is more zero = cc zero
still_told (Some n) left' lines is more zero =
    let gone : n ≡ 0 = some_is zero in
    more (is ∙ ap (λ (k : ℕ). Some k) (none gone))
  where
    some_is : {a b : ℕ} → Some a ≡ Some b → a ≡ b
    some_is e = cc e

    none : n ≡ 0 → n - length (said lines) ≡ 0
    none gone = omega (arith, gone)

pub not_zero : (left : Option ℕ) (n : ℕ) → left ≡ Some n → 0 < n → left ≡ Some 0 → ⊥
not_zero left n is some zero = omega (arith, some, some_is (sym is ∙ zero))
  where
    some_is : {a b : ℕ} → Some a ≡ Some b → a ≡ b
    some_is e = cc e

-- a file without a line has none behind the first ones
pub kept_none : (header file : List ℕ) → recovered_lines file ≡ [] → lines_after_settings header file ≡ []
kept_none header file none = ap (drop (length (recovered_lines header))) none ∙ drop_all (length (recovered_lines header)) [] (omega arith)
