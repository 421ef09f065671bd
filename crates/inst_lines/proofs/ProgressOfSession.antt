-- How far a session has come after each of its steps, at any world.
use Rattle.std.proofs.Common.{◌≡◌, ℕ, ◌+◌, ◌<◌, ◌≤◌, Bool, true, false, ◌||◌, nat_lt, List, [], ◌∷◌, ◌++◌, ◌⊎◌, inl, inr, ⊎_elim, Option, Result, Ok, Err, OnErr, IfErr, length, take, drop, sym, ap, subst, ◌∙◌, arith, length-append}
use Rattle.std.proofs.lemmas.Bool.{or_cases, or_parts, ltb-true, ltb-false}
use Rattle.std.proofs.lemmas.List.{append-nil, nil_from_length, take_all}
use Rattle.std.specs.Io.KnownBytes.{Appends, Consumes}
use Rattle.inst_base.specs.declared.fault.Fault.{Fault}
use Rattle.inst_base.specs.declared.fault.Fault.TheVariants.{Memory, ReadFault, WriteFault}
use Rattle.inst_lines.specs.declared.session.Session.{Session}
use Rattle.inst_lines.specs.declared.session.Counts.{Counts}
use Rattle.inst_lines.specs.declared.line_buffer.LineBuffer.{LineBuffer}
use Rattle.inst_base.specs.Newline.{newline, NoNewline, BreaksAt}
use Rattle.inst_lines.specs.Limits.{most_line_bytes, most_lines, most_bytes}
use Rattle.inst_lines.specs.Answers.{Answerer, AnswersLine, MakesRoom, state_after_line, output, state_after, refusals}
use Rattle.inst_lines.specs.LineBuffer.{unanswered_bytes, Fills, FillFails}
use Rattle.inst_base.specs.Handing.{WritesPart, WritesFirst}
use Rattle.inst_lines.specs.Progress.{Progress, Stopped, Finished}
use Rattle.inst_lines.specs.Session.{Reached, IsAnswered, IsReadyToRead, Finishes, Leaves, Turns, EndsInput, FailsRun}
use Rattle.inst_lines.specs.inner.Session.{TakesLine, Advances, Stops, AnsweredAll, AnswersLast, IsNoReadFault}
use Rattle.inst_base.proofs.Streams.{writes-none}
use Rattle.inst_lines.proofs.ProgressOfRunSteps.{progress-read, progress-line, progress-last, progress-write, progress-stop, progress-end, progress-room, progress-full, progress-cut}

-- an error that is passed on
pub err_passed : {T : Type 0} (P : Fault → Type 0) (r : Result T Fault) (f : Fault) → (x : Fault) × (r ≡ Err x) × (x ≡ f) → P f → IfErr r P
err_passed P r f p h = subst (λ (q : _). IfErr q P) (sym p.1) (subst P (sym p.2) h)

-- a fact for an error
pub on_err : {T E P : Type 0} (r : Result T E) → P → OnErr r P
on_err (Ok x) p = tt
on_err (Err e) p = p

module _ {S W : Type 0} (a : Answerer S) (holds : S → W → Type 0) where
  -- a line is answered and let go
  pub reached-line : (start : S) (before : Option (List ℕ)) (bytes : List ℕ) (now : Option (List ℕ)) (old new : Session) (s s' : W) (n : ℕ)
      → Reached a holds start before bytes now old s → BreaksAt (unanswered_bytes old.input) n → TakesLine a holds n old new s s'
      → Reached a holds start before bytes now new s'
  reached-line start before bytes now old new s s' n r b t =
      let front : List ℕ = r.progress.front in
      let is_front = r.progress.is_front in
      let after : S = state_after_line a r.state (front ++ take n (unanswered_bytes old.input)) in
      record {
        state = after;
        is_held = t.answers.state r.state r.is_held front is_front;
        progress =
            subst (λ (h : List ℕ). Progress a start before bytes now new.replies.bytes.items after new.input.is_long h new.counts.lines new.counts.refused) (sym t.held_is)
            (subst (λ (l : Bool). Progress a start before bytes now new.replies.bytes.items after l (drop (n + 1) (unanswered_bytes old.input)) new.counts.lines new.counts.refused) (sym t.is_long_is)
            (progress-line a start before bytes now _ r.state _ _ _ _ (take n (unanswered_bytes old.input)) (drop (n + 1) (unanswered_bytes old.input)) _ t.is_refused _ _ r.progress b.line b.rest
            (t.answers.reply r.state r.is_held front is_front) (t.answers.refusal r.state r.is_held front is_front) t.lines_are t.refused_are));
        taken_is = t.taken_is ∙ r.taken_is;
      }

  -- first replies are written
  pub reached-write : (start : S) (before : Option (List ℕ)) (bytes : List ℕ) (now now' : Option (List ℕ)) (old new : Session) (s : W)
      → Reached a holds start before bytes now old s → new.input ≡ old.input → new.counts ≡ old.counts
      → WritesFirst now now' old.replies.bytes.items new.replies.bytes.items
      → Reached a holds start before bytes now' new s
  reached-write start before bytes now now' old new s r same_input same_counts w = record {
    state = r.state;
    is_held = r.is_held;
    progress =
        subst (λ (i : LineBuffer). Progress a start before bytes now' new.replies.bytes.items r.state i.is_long (unanswered_bytes i) new.counts.lines new.counts.refused) (sym same_input)
        (subst (λ (k : Counts). Progress a start before bytes now' new.replies.bytes.items r.state old.input.is_long (unanswered_bytes old.input) k.lines k.refused) (sym same_counts)
        (progress-write a start before bytes now now' _ _ r.state _ _ _ _ r.progress w));
    taken_is = ap (λ (i : LineBuffer). i.taken) same_input ∙ r.taken_is;
  }

  -- further bytes are read
  pub reached-read : (start : S) (before : Option (List ℕ)) (bytes : List ℕ) (now left left' : Option (List ℕ)) (old new : Session) (s : W) (n : ℕ)
      → Reached a holds start before bytes now old s → new.replies ≡ old.replies → new.counts ≡ old.counts → (f : Fills old.input new.input n left left')
      → Reached a holds start before (bytes ++ f.read) now new s
  reached-read start before bytes now left left' old new s n r same_replies same_counts f = record {
    state = r.state;
    is_held = r.is_held;
    progress =
        subst (λ (h : List ℕ). Progress a start before (bytes ++ f.read) now new.replies.bytes.items r.state new.input.is_long h new.counts.lines new.counts.refused) (sym f.held_is)
        (subst (λ (l : Bool). Progress a start before (bytes ++ f.read) now new.replies.bytes.items r.state l (unanswered_bytes old.input ++ f.read) new.counts.lines new.counts.refused) (sym f.is_long_is)
        (subst (λ (k : Counts). Progress a start before (bytes ++ f.read) now new.replies.bytes.items r.state old.input.is_long (unanswered_bytes old.input ++ f.read) k.lines k.refused) (sym same_counts)
        (subst (λ (b : _). Progress a start before (bytes ++ f.read) now b.bytes.items r.state old.input.is_long (unanswered_bytes old.input ++ f.read) old.counts.lines old.counts.refused) (sym same_replies)
        (progress-read a start before bytes now _ r.state _ _ _ _ f.read r.progress))));
    taken_is = f.taken_is ∙ ap (λ (k : ℕ). k + n) r.taken_is ∙ ap (λ (k : ℕ). length bytes + k) (sym f.length_is) ∙ sym (length-append bytes f.read);
  }

  -- room is made for a read
  pub reached-room : (start : S) (before : Option (List ℕ)) (bytes : List ℕ) (now : Option (List ℕ)) (old new : Session) (s : W)
      → Reached a holds start before bytes now old s → new.replies ≡ old.replies → new.counts ≡ old.counts → new.input.taken ≡ old.input.taken
      → MakesRoom old.input.is_long (unanswered_bytes old.input) new.input.is_long (unanswered_bytes new.input)
      → Reached a holds start before bytes now new s
  reached-room start before bytes now old new s r same_replies same_counts same_taken room = record {
    state = r.state;
    is_held = r.is_held;
    progress =
        subst (λ (k : Counts). Progress a start before bytes now new.replies.bytes.items r.state new.input.is_long (unanswered_bytes new.input) k.lines k.refused) (sym same_counts)
        (subst (λ (b : _). Progress a start before bytes now b.bytes.items r.state new.input.is_long (unanswered_bytes new.input) old.counts.lines old.counts.refused) (sym same_replies)
        (progress-room a start before bytes now _ r.state _ _ _ _ _ _ r.progress room));
    taken_is = same_taken ∙ r.taken_is;
  }

  -- a part of the replies is written, and then the run stops
  pub reached-stop : (start : S) (before : Option (List ℕ)) (bytes : List ℕ) (now now' : Option (List ℕ)) (old : Session) (s : W)
      → Reached a holds start before bytes now old s → WritesPart now now' old.replies.bytes.items → Stopped a start before bytes now'
  reached-stop start before bytes now now' old s r w = progress-stop a start before bytes now now' _ r.state _ _ _ _ r.progress w

  -- the steps of answering what is held
  pub advances-none : (old : Session) (s : W) (now : Option (List ℕ)) → Advances a holds old s now old s now
  advances-none old s now = record { reaches = λ start before bytes r. r }

  pub advances-line : (first : Session) (s0 : W) (now0 : Option (List ℕ)) (old middle new : Session) (s s' : W) (now now' : Option (List ℕ)) (n : ℕ)
      → Advances a holds first s0 now0 old s now → BreaksAt (unanswered_bytes old.input) n → TakesLine a holds n old middle s s'
      → new.input ≡ middle.input → new.counts ≡ middle.counts → WritesFirst now now' middle.replies.bytes.items new.replies.bytes.items
      → Advances a holds first s0 now0 new s' now'
  advances-line first s0 now0 old middle new s s' now now' n d b t same_input same_counts w = record {
    reaches = λ start before bytes r. reached-write start before bytes now now' middle new s' (reached-line start before bytes now old middle s s' n (d.reaches start before bytes r) b t) same_input same_counts w;
  }

  pub stops-unwritten : (first : Session) (s0 : W) (now0 : Option (List ℕ)) (old : Session) (s : W) (now : Option (List ℕ))
      → Advances a holds first s0 now0 old s now → Stops a holds first s0 now0 now
  stops-unwritten first s0 now0 old s now d = record {
    stops = λ start before bytes r. reached-stop start before bytes now now old s (d.reaches start before bytes r) (writes-none now _);
  }

  pub stops-line : (first : Session) (s0 : W) (now0 : Option (List ℕ)) (old middle : Session) (s s' : W) (now now' : Option (List ℕ)) (n : ℕ)
      → Advances a holds first s0 now0 old s now → BreaksAt (unanswered_bytes old.input) n → TakesLine a holds n old middle s s' → WritesPart now now' middle.replies.bytes.items
      → Stops a holds first s0 now0 now'
  stops-line first s0 now0 old middle s s' now now' n d b t w = record {
    stops = λ start before bytes r. reached-stop start before bytes now now' middle s' (reached-line start before bytes now old middle s s' n (d.reaches start before bytes r) b t) w;
  }

  in_line_cases : (l : Bool) (n : ℕ) → (l || nat_lt 0 n) ≡ true → (l ≡ true) ⊎ (0 < n)
  in_line_cases l n h = ⊎_elim (λ (is : l ≡ true). inl is) (λ (is : nat_lt 0 n ≡ true). inr (ltb-true _ _ is)) (or_cases _ _ h)

  pub answers-last : (old new : Session) (s s' : W) (n : ℕ) → (old.input.is_long || nat_lt 0 (length (unanswered_bytes old.input))) ≡ true → IsAnswered old
      → n ≡ length (unanswered_bytes old.input) → TakesLine a holds n old new s s' → AnswersLast a holds old new s s'
  answers-last old new s s' n busy answered whole t =
      let part_is : take n (unanswered_bytes old.input) ≡ unanswered_bytes old.input = take_all n _ (omega arith) in
      record {
        ends = λ start before bytes now r.
            let front : List ℕ = r.progress.front in
            let is_front = r.progress.is_front in
            let all : AnswersLine a holds old.input.is_long (unanswered_bytes old.input) s s' old.replies.bytes.items new.replies.bytes.items t.is_refused =
            subst (λ (h : List ℕ). AnswersLine a holds old.input.is_long h s s' old.replies.bytes.items new.replies.bytes.items t.is_refused) part_is t.answers in
            let p : _ × _ = progress-last a start before bytes now now _ r.state _ _ _ _ new.replies.bytes.items t.is_refused new.counts.lines new.counts.refused r.progress answered.no_newline
            (in_line_cases _ _ busy) (all.reply r.state r.is_held front is_front) (all.refusal r.state r.is_held front is_front) t.lines_are t.refused_are in
            record {
              state = state_after_line a r.state (front ++ unanswered_bytes old.input);
              is_held = all.state r.state r.is_held front is_front;
              closed = bytes ++ newline ∷ [];
              progress = p.0;
              same_lines = p.1;
            };
      }

  pub finishes-delivered : (old middle : Session) (s s' : W) (now now' : Option (List ℕ)) → AnswersLast a holds old middle s s'
      → WritesFirst now now' middle.replies.bytes.items [] → Finishes a holds old s now middle.counts s' now'
  finishes-delivered old middle s s' now now' l w = record {
    finishes = λ start before bytes r.
        let e : AnsweredAll a holds start before bytes now middle s' = l.ends start before bytes now r in
        let f : Finished a start before e.closed now' e.state middle.counts.lines middle.counts.refused =
        progress-end a start before e.closed now' e.state _ _ (progress-write a start before e.closed now now' _ _ e.state _ _ _ _ e.progress w) in (
          e.state,
          e.is_held,
          record {
            appends = subst (λ (t : List (List ℕ)). Appends before now' (output a start t)) e.same_lines f.appends;
            state_is = subst (λ (t : List (List ℕ)). e.state ≡ state_after a start t) e.same_lines f.state_is;
            lines_are = subst (λ (t : List (List ℕ)). middle.counts.lines ≡ length t) e.same_lines f.lines_are;
            refused_are = subst (λ (t : List (List ℕ)). middle.counts.refused ≡ refusals a start t) e.same_lines f.refused_are;
          },
        );
  }

  -- a front of the replies to the lines is one of the replies to the bytes
  pub stops-last : (old middle : Session) (s s' : W) (now now' : Option (List ℕ)) → AnswersLast a holds old middle s s'
      → WritesPart now now' middle.replies.bytes.items → Stops a holds old s now now'
  stops-last old middle s s' now now' l w = record {
    stops = λ start before bytes r.
        let e : AnsweredAll a holds start before bytes now middle s' = l.ends start before bytes now r in
        let f : Stopped a start before e.closed now' = progress-stop a start before e.closed now now' _ e.state _ _ _ _ e.progress w in
        record {
          written = f.written;
          unwritten = f.unwritten;
          appends = f.appends;
          is_front = ap (λ (t : List (List ℕ)). output a start t) (sym e.same_lines) ∙ f.is_front;
        };
  }

  -- turns, at their ends
  nil_read : (n : ℕ) (read : List ℕ) → length read ≡ n → n ≡ 0 → read ≡ []
  nil_read n read len none = nil_from_length read (len ∙ none)

  pub answered-read : (old new : Session) (n : ℕ) (left left' : Option (List ℕ)) → IsAnswered old → new.counts ≡ old.counts → Fills old.input new.input n left left' → n ≡ 0 → IsAnswered new
  answered-read old new n left left' o same_counts f none =
      let same : unanswered_bytes new.input ≡ unanswered_bytes old.input = f.held_is ∙ ap (λ (t : List ℕ). unanswered_bytes old.input ++ t) (nil_read n f.read f.length_is none) ∙ append-nil _ in
      record {
        no_newline = subst NoNewline (sym same) o.no_newline;
        limit = λ full. let idle : _ × _ = o.limit (ap (λ (k : Counts). k.lines) (sym same_counts) ∙ full) in (f.is_long_is ∙ idle.0, same ∙ idle.1);
      }

  pub turn-fill_fails : (old : Session) (s : W) (now left left' : Option (List ℕ)) → IsReadyToRead old → FillFails old.input left left' → FailsRun a holds old s now now left left' ReadFault
  turn-fill_fails old s now left left' ready f = record {
    read = f.past;
    consumes = f.consumes;
    leaves = λ start before bytes r.
        let p : Progress a start before bytes now [] r.state old.input.is_long (unanswered_bytes old.input) old.counts.lines old.counts.refused =
        subst (λ (t : List ℕ). Progress a start before bytes now t r.state old.input.is_long (unanswered_bytes old.input) old.counts.lines old.counts.refused) ready.pending r.progress in
        progress-cut a start before bytes f.past now r.state _ _ _ _ p ready.answered.no_newline old.limit
        (subst (λ (n : ℕ). n ≤ most_bytes) r.taken_is old.input.limit)
        (⊎_elim (λ (is : f.past ≡ []). inl is) (λ (is : old.input.taken ≡ most_bytes). inr (sym r.taken_is ∙ is)) f.why);
  }

  pub leaves-stopped : (start : S) (before : Option (List ℕ)) (bytes : List ℕ) (now : Option (List ℕ)) (fault : Fault) → IsNoReadFault fault → Stopped a start before bytes now → Leaves a start before bytes now fault
  leaves-stopped start before bytes now Memory h s = s
  leaves-stopped start before bytes now ReadFault h s = absurd h
  leaves-stopped start before bytes now WriteFault h s = s
  leaves-stopped start before bytes now _ h s = absurd h

  pub turn-stops : (old middle : Session) (s : W) (now now' left left' : Option (List ℕ)) (n : ℕ) (fault : Fault)
      → middle.replies ≡ old.replies → middle.counts ≡ old.counts → Fills old.input middle.input n left left'
      → Stops a holds middle s now now' → IsNoReadFault fault → FailsRun a holds old s now now' left left' fault
  turn-stops old middle s now now' left left' n fault same_replies same_counts f stop no_read = record {
    read = f.read;
    consumes = f.consumes;
    leaves = λ start before bytes r. leaves-stopped start before (bytes ++ f.read) now' fault no_read
        (stop.stops start before (bytes ++ f.read) (reached-read start before bytes now left left' old middle s n r same_replies same_counts f));
  }

  -- the replies to what is held are not delivered
  pub stops-after : (first : Session) (s0 : W) (now0 : Option (List ℕ)) (old : Session) (s : W) (now now' : Option (List ℕ))
      → Advances a holds first s0 now0 old s now → WritesPart now now' old.replies.bytes.items → Stops a holds first s0 now0 now'
  stops-after first s0 now0 old s now now' d w = record {
    stops = λ start before bytes r. reached-stop start before bytes now now' old s (d.reaches start before bytes r) w;
  }

  pub turn-ends : (old middle : Session) (counts : Counts) (s s' : W) (now now' left left' : Option (List ℕ)) (n : ℕ)
      → middle.replies ≡ old.replies → middle.counts ≡ old.counts → Fills old.input middle.input n left left' → n ≡ 0
      → Finishes a holds middle s now counts s' now' → EndsInput a holds old s now counts s' now' left left'
  turn-ends old middle counts s s' now now' left left' n same_replies same_counts f none e =
      let empty : f.read ≡ [] = nil_read n f.read f.length_is none in
      record {
        consumes = subst (λ (t : List ℕ). Consumes left left' t) empty f.consumes;
        at_end = f.at_end none;
        finishes = record {
          finishes = λ start before bytes r. e.finishes start before bytes
              (subst (λ (t : List ℕ). Reached a holds start before t now middle s) (ap (λ (t : List ℕ). bytes ++ t) empty ∙ append-nil bytes)
              (reached-read start before bytes now left left' old middle s n r same_replies same_counts f));
        };
      }

  -- what holds once the replies are delivered
  delivered : (start : S) (before : Option (List ℕ)) (bytes : List ℕ) (old middle answered new : Session) (s s' : W) (now now' now'' left left' : Option (List ℕ)) (n : ℕ)
      → middle.replies ≡ old.replies → middle.counts ≡ old.counts → (f : Fills old.input middle.input n left left')
      → Advances a holds middle s now answered s' now' → new.input ≡ answered.input → new.counts ≡ answered.counts
      → WritesFirst now' now'' answered.replies.bytes.items new.replies.bytes.items
      → Reached a holds start before bytes now old s → Reached a holds start before (bytes ++ f.read) now'' new s'
  delivered start before bytes old middle answered new s s' now now' now'' left left' n same_replies same_counts f d same_input same_counts' w r =
      reached-write start before (bytes ++ f.read) now' now'' answered new s'
      (d.reaches start before (bytes ++ f.read) (reached-read start before bytes now left left' old middle s n r same_replies same_counts f))
      same_input same_counts' w

  pub turn-full : (old middle answered new : Session) (s s' : W) (now now' now'' left left' : Option (List ℕ)) (n : ℕ)
      → middle.replies ≡ old.replies → middle.counts ≡ old.counts → Fills old.input middle.input n left left'
      → Advances a holds middle s now answered s' now' → new.input ≡ answered.input → new.counts ≡ answered.counts
      → WritesFirst now' now'' answered.replies.bytes.items new.replies.bytes.items → new.replies.bytes.items ≡ []
      → new.counts.lines ≡ most_lines
      → FailsRun a holds old s now now'' left left' ReadFault
  turn-full old middle answered new s s' now now' now'' left left' n same_replies same_counts f d same_input same_counts' w none full = record {
    read = f.read;
    consumes = f.consumes;
    leaves = λ start before bytes r.
        let e : Reached a holds start before (bytes ++ f.read) now'' new s' = delivered start before bytes old middle answered new s s' now now' now'' left left' n same_replies same_counts f d same_input same_counts' w r in
        progress-full a start before (bytes ++ f.read) now'' e.state _ _ _ _
        (subst (λ (t : List ℕ). Progress a start before (bytes ++ f.read) now'' t e.state new.input.is_long (unanswered_bytes new.input) new.counts.lines new.counts.refused) none e.progress)
        full (subst (λ (k : ℕ). k ≤ most_bytes) e.taken_is new.input.limit);
  }

  pub turn-goes_on : (old middle answered sent new : Session) (s s' : W) (now now' now'' left left' : Option (List ℕ)) (n : ℕ)
      → middle.replies ≡ old.replies → middle.counts ≡ old.counts → Fills old.input middle.input n left left' → (n ≡ 0 → ⊥)
      → Advances a holds middle s now answered s' now' → answered.input.taken ≡ middle.input.taken
      → sent.input ≡ answered.input → sent.counts ≡ answered.counts
      → WritesFirst now' now'' answered.replies.bytes.items sent.replies.bytes.items → sent.replies.bytes.items ≡ []
      → new.replies ≡ sent.replies → new.counts ≡ sent.counts → new.input.taken ≡ sent.input.taken
      → MakesRoom sent.input.is_long (unanswered_bytes sent.input) new.input.is_long (unanswered_bytes new.input)
      → new.input.end ≤ most_line_bytes
      → (sent.counts.lines ≡ most_lines → (sent.input.is_long || nat_lt 0 (length (unanswered_bytes sent.input))) ≡ false)
      → Turns a holds old s now new s' now'' left left'
  turn-goes_on old middle answered sent new s s' now now' now'' left left' n same_replies same_counts f some d same_taken same_input same_counts' w none same_replies' same_counts'' same_taken' room space limit =
      record {
        read = f.read;
        consumes = f.consumes;
        is_ready = record {
          answered = record {
            no_newline = room.no_newline;
            limit = λ full.
                let idle : (sent.input.is_long || nat_lt 0 (length (unanswered_bytes sent.input))) ≡ false = limit (ap (λ (k : Counts). k.lines) (sym same_counts'') ∙ full) in
                let parts : _ × _ = or_parts _ _ idle in
                let short : length (unanswered_bytes sent.input) ≤ 0 = ltb-false _ _ parts.1 in
                room.idle parts.0 (nil_from_length _ (omega arith));
          };
          pending = ap (λ (b : _). b.bytes.items) same_replies' ∙ none;
          room = space;
        };
        more = (let chain : new.input.taken ≡ old.input.taken + n = same_taken' ∙ ap (λ (i : LineBuffer). i.taken) same_input ∙ same_taken ∙ f.taken_is in omega (arith, chain, some));
        reaches = λ start before bytes r.
            reached-room start before (bytes ++ f.read) now'' sent new s'
            (delivered start before bytes old middle answered sent s s' now now' now'' left left' n same_replies same_counts f d same_input same_counts' w r)
            same_replies' same_counts'' same_taken' room;
      }
