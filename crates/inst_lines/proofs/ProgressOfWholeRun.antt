-- How far a whole run has come, at any world.
use Rattle.std.proofs.Common.{◌≡◌, ℕ, Bool, false, ◌≤◌, List, [], ◌++◌, Option, Some, None, IfSome, length, sym, ap, subst, ◌∙◌}
use Rattle.std.proofs.lemmas.List.{append-nil}
use Rattle.std.specs.Io.KnownBytes.{Appends, Consumes, IsAtEnd}
use Rattle.inst_base.specs.declared.fault.Fault.{Fault}
use Rattle.inst_lines.specs.declared.session.Session.{Session}
use Rattle.inst_lines.specs.declared.session.Counts.{Counts}
use Rattle.inst_lines.specs.Lines.{lines_of, IsWithinLimits}
use Rattle.inst_lines.specs.Limits.{most_bytes, most_lines}
use Rattle.inst_lines.specs.Answers.{Answerer, output, state_after, refusals}
use Rattle.inst_lines.specs.LineBuffer.{unanswered_bytes}
use Rattle.inst_lines.specs.Progress.{Progress, Finished}
use Rattle.inst_lines.specs.Session.{Reached, IsReadyToRead, Turns, EndsInput, FailsRun, CountsLines, FailsAfter}
use Rattle.inst_base.proofs.Streams.{Consumes-append, Consumes-keeps, Keeps-same}
use Rattle.inst_lines.proofs.ProgressOfRunSteps.{progress-start}

-- the session is ready for its next read, and has come this far in what the reader gave
pub record Reads {S W : Type 0} (a : Answerer S) (holds : S → W → Type 0) (start : S) (before : Option (List ℕ)) (left : Option (List ℕ)) (session : Session) (world : W) (now : Option (List ℕ)) (left' : Option (List ℕ)) : Type 0 where
  pub bytes : List ℕ
  pub consumes : Consumes left left' bytes
  pub is_ready : IsReadyToRead session
  pub reached : Reached a holds start before bytes now session world

-- the run is over, and this is what it answered
pub record Done {S W : Type 0} (a : Answerer S) (holds : S → W → Type 0) (start : S) (before : Option (List ℕ)) (left : Option (List ℕ)) (counts : Counts) (world : W) (now : Option (List ℕ)) (left' : Option (List ℕ)) : Type 0 where
  pub output_is : IfSome left (λ bytes. Appends before now (output a start (lines_of bytes)))
  pub lines_are : IfSome left (λ bytes. counts.lines ≡ length (lines_of bytes))
  pub refused_are : IfSome left (λ bytes. counts.refused ≡ refusals a start (lines_of bytes))
  pub state_is : IfSome left (λ bytes. holds (state_after a start (lines_of bytes)) world)
  pub fits : counts.lines ≤ most_lines → IfSome left IsWithinLimits
  pub at_end : IsAtEnd left'

-- all that was left is what was consumed, at the end
if_consumed : (left left' : Option (List ℕ)) (bytes : List ℕ) (P : List ℕ → Type 0) → Consumes left left' bytes → IsAtEnd left' → P bytes → IfSome left P
if_consumed None left' bytes P c e p = tt
if_consumed (Some xs) None bytes P c e p = absurd c
if_consumed (Some xs) (Some ys) bytes P c e p = subst P (sym (c ∙ ap (λ (t : List ℕ). bytes ++ t) e ∙ append-nil bytes)) p

module _ {S W : Type 0} (a : Answerer S) (holds : S → W → Type 0) (start : S) (before left : Option (List ℕ)) where
  pub runs-start : (session : Session) (world : W) → holds start world → IsReadyToRead session → unanswered_bytes session.input ≡ [] → session.input.is_long ≡ false → session.input.taken ≡ 0 → session.counts.lines ≡ 0 → session.counts.refused ≡ 0
      → Reads a holds start before left session world before left
  runs-start session world is_held ready empty short none no_lines no_refused = record {
    bytes = [];
    consumes = Consumes-keeps left left (Keeps-same left);
    is_ready = ready;
    reached = record {
      state = start;
      is_held = is_held;
      progress =
          subst (λ (p : List ℕ). Progress a start before [] before p start session.input.is_long (unanswered_bytes session.input) session.counts.lines session.counts.refused) (sym ready.pending)
          (subst (λ (l : Bool). Progress a start before [] before [] start l (unanswered_bytes session.input) session.counts.lines session.counts.refused) (sym short)
          (subst (λ (h : List ℕ). Progress a start before [] before [] start false h session.counts.lines session.counts.refused) (sym empty)
          (subst (λ (n : ℕ). Progress a start before [] before [] start false [] n session.counts.refused) (sym no_lines)
          (subst (λ (n : ℕ). Progress a start before [] before [] start false [] 0 n) (sym no_refused)
          (progress-start a start before)))));
      taken_is = none;
    };
  }

  pub runs-turn : (old new : Session) (s s' : W) (now now' left' left'' : Option (List ℕ)) → Reads a holds start before left old s now left' → Turns a holds old s now new s' now' left' left'' → Reads a holds start before left new s' now' left''
  runs-turn old new s s' now now' left' left'' r t = record {
    bytes = r.bytes ++ t.read;
    consumes = Consumes-append left left' left'' r.bytes t.read r.consumes t.consumes;
    is_ready = t.is_ready;
    reached = t.reaches start before r.bytes r.reached;
  }

  pub runs-end : (old : Session) (counts : Counts) (s s' : W) (now now' left' left'' : Option (List ℕ)) → Reads a holds start before left old s now left' → EndsInput a holds old s now counts s' now' left' left'' → Done a holds start before left counts s' now' left''
  runs-end old counts s s' now now' left' left'' r e =
      let all : Consumes left left'' r.bytes = subst (λ (t : List ℕ). Consumes left left'' t) (append-nil r.bytes) (Consumes-append left left' left'' r.bytes [] r.consumes e.consumes) in
      let ended = e.finishes.finishes start before r.bytes r.reached in
      let f : Finished a start before r.bytes now' ended.0 counts.lines counts.refused = ended.2 in
      record {
        output_is = if_consumed left left'' r.bytes (λ bytes. Appends before now' (output a start (lines_of bytes))) all e.at_end f.appends;
        lines_are = if_consumed left left'' r.bytes (λ bytes. counts.lines ≡ length (lines_of bytes)) all e.at_end f.lines_are;
        refused_are = if_consumed left left'' r.bytes (λ bytes. counts.refused ≡ refusals a start (lines_of bytes)) all e.at_end f.refused_are;
        state_is = if_consumed left left'' r.bytes (λ bytes. holds (state_after a start (lines_of bytes)) s') all e.at_end (subst (λ (t : S). holds t s') f.state_is ended.1);
        fits = λ few. if_consumed left left'' r.bytes IsWithinLimits all e.at_end record {
          bytes_fit = subst (λ (n : ℕ). n ≤ most_bytes) r.reached.taken_is old.input.limit;
          lines_fit = subst (λ (n : ℕ). n ≤ most_lines) f.lines_are few;
        };
        at_end = e.at_end;
      }

  pub runs-fail : (old : Session) (s : W) (now now' left' left'' : Option (List ℕ)) (fault : Fault) → Reads a holds start before left old s now left' → FailsRun a holds old s now now' left' left'' fault → FailsAfter a start before now' left left'' fault
  runs-fail old s now now' left' left'' fault r f = record {
    bytes = r.bytes ++ f.read;
    consumes = Consumes-append left left' left'' r.bytes f.read r.consumes f.consumes;
    leaves = f.leaves start before r.bytes r.reached;
  }

-- what is said of both counts, where the bytes are known
pub counts_of : {S : Type 0} (a : Answerer S) (start : S) (left : Option (List ℕ)) (counts : Counts) → IfSome left (λ bytes. counts.lines ≡ length (lines_of bytes)) → IfSome left (λ bytes. counts.refused ≡ refusals a start (lines_of bytes))
    → IfSome left (λ bytes. CountsLines a start bytes counts)
counts_of a start None counts lines refused = tt
counts_of a start (Some bytes) counts lines refused = record { lines = lines; refused = refused }
