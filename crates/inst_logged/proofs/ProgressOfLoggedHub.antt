-- How far a hub with a log has come.
use Rattle.std.proofs.Common.{◌≡◌, ⊎_elim, inl, inr, ℕ, ◌+◌, ◌≤◌, List, [], ◌++◌, map, Option, length, take, append_assoc, length-append, refl, sym, ◌∙◌, ap, subst, arith}
use Rattle.std.proofs.Math.Seq.{take-append-add}
use Rattle.std.proofs.lemmas.List.{append-nil, map-append}
use Rattle.std.specs.Io.KnownBytes.{Consumes}
use Rattle.inst_lines.specs.Lines.{lines_of, whole_lines_of}
use Rattle.inst_base.proofs.Streams.{Consumes-append, Consumes-keeps, Appends-append, Appends-keeps, Keeps-same}
use Rattle.inst_log.specs.Layout.{recovered_lines}
use Rattle.inst_log.specs.Log.{IsSettled}
use Rattle.inst_log.specs.Serving.{Replies, Tells, TellsKept, SaysOn}
use Rattle.inst_log.specs.declared.recorder.Recorder.{Recorder}
use Rattle.inst_log.proofs.ToldRepliesAreKept.{on_more, tells_more, kept_after}
use Rattle.inst_chain.specs.Chain.{said}
use Rattle.inst_chain.proofs.LinesWithoutMarks.{said-append}
use Rattle.inst_logged.specs.Answering.{SaysLines}
use Rattle.inst_logged.specs.Intake.{line_part}
use Rattle.inst_logged.specs.Input.{shortened_line, logged_line}
use Rattle.inst_logged.specs.inner.Input.{lines_from, rest_from, last_line}
use Rattle.inst_logged.specs.inner.Logged.{Turned, Ended, Came, IsInput, CameIn, ServedOn, KeptOn, HasCome}
use Rattle.inst_logged.specs.declared.line_answers.LineAnswers.{LineAnswers}
use Rattle.inst_logged.specs.declared.intake.Intake.{Intake}
use Rattle.inst_logged.proofs.LinesFromPieces.{lines_append, rest_append, lines_of-from, whole_lines_of-from}

pub told_none : (says : Replies → Type 0) (now : Option (List ℕ)) → ((f : Replies) → says f → f [] ≡ []) → Tells says [] now now
told_none says now none = record { told = []; handed = Appends-keeps now now (Keeps-same now); whole = none }

says_none : (says : Replies → Type 0) → ((f : Replies) → says f → f [] ≡ []) → SaysOn says [] says
says_none says none f said = (f, said, λ more. ap (λ (l : List ℕ). l ++ f more) (sym (none f said)))

-- what covers some lines covers them with those before
pub kept_more : (old mid : Replies → Type 0) (first done lines here : List (List ℕ)) (may_leave : List ℕ → Type 0) (before at after : Option (List ℕ))
    → SaysOn old done mid → Tells old done before at → here ≡ first ++ done → TellsKept recovered_lines may_leave mid here lines at after
    → TellsKept recovered_lines may_leave old first (done ++ lines) before after
kept_more old mid first done lines here may_leave before at after on s stands t = record {
  told = s.told ++ t.told;
  handed = Appends-append before at after s.told t.told s.handed t.handed;
  kept = λ c may.
      let k = t.kept c may in
      let front : take (length done + k.n) (done ++ lines) ≡ done ++ take k.n lines = take-append-add done lines k.n in
      record {
        n = length done + k.n;
        few = omega (arith, length-append done lines, k.few);
        lines = k.lines ∙ ap (λ (ls : List (List ℕ)). ls ++ take k.n lines) stands ∙ append_assoc first done (take k.n lines)
            ∙ ap (λ (ls : List (List ℕ)). first ++ ls) (sym front);
        covers = λ f said.
            let (g, said-g, goes-g) = on f said in
            let (rest, covers) = k.covers g said-g in (
              rest,
              ap f front ∙ goes-g (take k.n lines) ∙ ap (λ (l : List ℕ). l ++ g (take k.n lines)) (s.whole f said)
                  ∙ ap (λ (l : List ℕ). s.told ++ l) covers ∙ sym (append_assoc s.told t.told rest),
            );
      };
}

module _ {D : Type 0} (seen : D → List ℕ) (may_leave : D → List ℕ → Type 0) (old : Recorder D LineAnswers) (left before : Option (List ℕ)) where
  abbrev pub says_now : Recorder D LineAnswers → Replies → Type 0
  says_now recorder = SaysLines recorder.answers.mode recorder.answers.runner

  -- nothing yet
  pub come_none : (clean : Type 0) (intake : Intake) → (clean → IsSettled seen may_leave old.log) → line_part intake ≡ []
      → HasCome seen may_leave clean old old intake left left before before
  come_none clean intake settled nothing =
      record {
        bytes = [];
        consumes = Consumes-keeps left left (Keeps-same left);
        held_is = nothing;
        served = record {
          lines = [];
          came = refl;
          tells = told_none _ before (λ f said. said.are []);
          on = says_none _ (λ f said. said.are []);
          settled = λ is. (settled is, sym (append-nil (recovered_lines (seen old.log.disk))));
        };
      }

  served_more : (clean clean' : Type 0) (came came' both : List (List ℕ) → Type 0) (mid new : Recorder D LineAnswers) (at after : Option (List ℕ)) → (clean' → clean)
      → (s : ServedOn seen may_leave clean came old mid before at) → (t : ServedOn seen may_leave clean' came' mid new at after) → both (said (s.lines ++ t.lines))
      → ServedOn seen may_leave clean' both old new before after
  served_more clean clean' came came' both mid new at after was s t all =
      record {
        lines = s.lines ++ t.lines;
        came = all;
        tells = tells_more _ _ before at after s.lines t.lines s.on s.tells t.tells;
        on = on_more _ _ _ s.lines t.lines s.on t.on;
        settled = λ is. (
          (t.settled is).0,
          (t.settled is).1 ∙ ap (λ (ls : List (List ℕ)). ls ++ t.lines) (s.settled (was is)).1
              ∙ append_assoc (recovered_lines (seen old.log.disk)) s.lines t.lines,
        );
      }

  -- further bytes
  pub come_more : (clean clean' : Type 0) (mid new : Recorder D LineAnswers) (intake intake' : Intake) (left' left'' at after : Option (List ℕ)) → (clean' → clean)
      → (h : HasCome seen may_leave clean old mid intake left left' before at)
      → ServedOn seen may_leave clean' (λ lines. Turned (rest_from [] h.bytes) intake' lines left' left'') mid new at after
      → HasCome seen may_leave clean' old new intake' left left'' before after
  come_more clean clean' mid new intake intake' left' left'' at after was h t =
      let read = t.came.read in
      record {
        bytes = h.bytes ++ read;
        consumes = Consumes-append left left' left'' h.bytes read h.consumes t.came.consumes;
        held_is = t.came.held_is ∙ ap shortened_line (sym (rest_append [] h.bytes read));
        served = served_more clean clean' _ _ _ mid new at after was h.served t
            (said-append h.served.lines t.lines
            ∙ ap (λ (ls : List (List ℕ)). ls ++ said t.lines) h.served.came
            ∙ ap (λ (ls : List (List ℕ)). map logged_line (lines_from [] h.bytes) ++ ls) t.came.lines_are
            ∙ sym (map-append logged_line (lines_from [] h.bytes) (lines_from (rest_from [] h.bytes) read))
            ∙ ap (λ (ls : List (List ℕ)). map logged_line ls) (sym (lines_append [] h.bytes read)));
      }

  pub come_longer : (clean clean' : Type 0) (mid new : Recorder D LineAnswers) (intake intake' : Intake) (left' left'' at after : Option (List ℕ)) (was : clean' → clean)
      → (h : HasCome seen may_leave clean old mid intake left left' before at)
      → (t : ServedOn seen may_leave clean' (λ lines. Turned (rest_from [] h.bytes) intake' lines left' left'') mid new at after)
      → (n : ℕ) → n ≤ length h.bytes → n + 1 ≤ length (come_more clean clean' mid new intake intake' left' left'' at after was h t).bytes
  unfolding come_more
  come_longer clean clean' mid new intake intake' left' left'' at after was h t n few =
      let longer : n + 1 ≤ length (h.bytes ++ t.came.read) = omega (arith, few, t.came.some, length-append h.bytes t.came.read) in
      longer

  last_too : (bytes : List ℕ) (lines more : List (List ℕ)) → lines ≡ map logged_line (lines_from [] bytes) → more ≡ map logged_line (last_line (rest_from [] bytes))
      → lines ++ more ≡ map logged_line (lines_of bytes)
  last_too bytes lines more is last =
      ap (λ (ls : List (List ℕ)). ls ++ more) is
      ∙ ap (λ (ls : List (List ℕ)). map logged_line (lines_from [] bytes) ++ ls) last
      ∙ sym (map-append logged_line (lines_from [] bytes) (last_line (rest_from [] bytes)))
      ∙ ap (λ (ls : List (List ℕ)). map logged_line ls) (sym (lines_of-from [] bytes tt))

  -- the end of the input
  pub come_end : (clean clean' : Type 0) (mid new : Recorder D LineAnswers) (intake : Intake) (left' left'' at after : Option (List ℕ)) → (clean' → clean)
      → (h : HasCome seen may_leave clean old mid intake left left' before at)
      → ServedOn seen may_leave clean' (λ lines. Ended (rest_from [] h.bytes) lines left' left'') mid new at after
      → ServedOn seen may_leave clean' (IsInput left left'') old new before after
  come_end clean clean' mid new intake left' left'' at after was h t =
      served_more clean clean' _ _ _ mid new at after was h.served t (record {
        bytes = h.bytes;
        consumes = subst (λ (b : List ℕ). Consumes left left'' b) (append-nil h.bytes)
            (Consumes-append left left' left'' h.bytes [] h.consumes t.came.consumes);
        at_end = t.came.at_end;
        lines_are = said-append h.served.lines t.lines ∙ last_too h.bytes (said h.served.lines) (said t.lines) h.served.came t.came.lines_are;
      })

  came_all : (done lines : List (List ℕ)) (bytes : List ℕ) (left' left'' : Option (List ℕ)) → Consumes left left' bytes → done ≡ map logged_line (lines_from [] bytes)
      → Came (rest_from [] bytes) lines left' left'' → CameIn left left'' (done ++ lines)
  came_all done lines bytes left' left'' consumes is k =
      let all = Consumes-append left left' left'' bytes k.read consumes k.consumes in
      ⊎_elim
      (λ so. record {
        bytes = bytes ++ k.read;
        consumes = all;
        read = whole_lines_of (bytes ++ k.read);
        read_are = inl refl;
        lines_are = ap (λ (ls : List (List ℕ)). ls ++ lines) is
            ∙ ap (λ (ls : List (List ℕ)). map logged_line (lines_from [] bytes) ++ ls) so
            ∙ sym (map-append logged_line (lines_from [] bytes) (lines_from (rest_from [] bytes) k.read))
            ∙ ap (λ (ls : List (List ℕ)). map logged_line ls) (sym (lines_append [] bytes k.read) ∙ sym (whole_lines_of-from [] (bytes ++ k.read) tt));
      })
      (λ ends. record {
        bytes = bytes;
        consumes = subst (λ (b : List ℕ). Consumes left left'' b) (ap (λ (r : List ℕ). bytes ++ r) ends.0 ∙ append-nil bytes) all;
        read = lines_of bytes;
        read_are = inr (ends.1.0, refl);
        lines_are = last_too bytes done lines is ends.1.1;
      })
      k.lines_are

  -- a crash at any moment of what comes next
  pub come_kept : (clean : Type 0) (mid : Recorder D LineAnswers) (intake : Intake) (may_leave' : List ℕ → Type 0) (left' left'' at after : Option (List ℕ)) → clean
      → (h : HasCome seen may_leave clean old mid intake left left' before at)
      → KeptOn may_leave' (λ lines. Came (rest_from [] h.bytes) lines left' left'') (says_now mid) (recovered_lines (seen mid.log.disk)) at after
      → KeptOn may_leave' (CameIn left left'') (says_now old) (recovered_lines (seen old.log.disk)) before after
  come_kept clean mid intake may_leave' left' left'' at after is h k =
      record {
        lines = h.served.lines ++ k.lines;
        came = subst (CameIn left left'') (sym (said-append h.served.lines k.lines)) (came_all (said h.served.lines) (said k.lines) h.bytes left' left'' h.consumes h.served.came k.came);
        kept = kept_more _ _ (recovered_lines (seen old.log.disk)) h.served.lines k.lines (recovered_lines (seen mid.log.disk)) may_leave' before at after
            h.served.on h.served.tells (h.served.settled is).1 k.kept;
      }

  -- all that came before covers itself
  pub come_so_far : (clean : Type 0) (mid : Recorder D LineAnswers) (intake : Intake) (left' at : Option (List ℕ)) → clean
      → (h : HasCome seen may_leave clean old mid intake left left' before at)
      → KeptOn (may_leave mid.log.disk) (CameIn left left') (says_now old) (recovered_lines (seen old.log.disk)) before at
  come_so_far clean mid intake left' at is h =
      record {
        lines = h.served.lines;
        came = record {
          bytes = h.bytes;
          consumes = h.consumes;
          read = whole_lines_of h.bytes;
          read_are = inl refl;
          lines_are = h.served.came ∙ ap (λ (ls : List (List ℕ)). map logged_line ls) (sym (whole_lines_of-from [] h.bytes tt));
        };
        kept = kept_after _ (recovered_lines (seen old.log.disk)) h.served.lines (may_leave mid.log.disk) before at (record {
          told = h.served.tells.told;
          handed = h.served.tells.handed;
          front = λ f said. ([], h.served.tells.whole f said ∙ sym (append-nil h.served.tells.told));
        }) (λ c may. ap recovered_lines ((h.served.settled is).0.durable c may) ∙ (h.served.settled is).1);
      }

  -- what came is known better
  pub served_as : (clean : Type 0) (came came' : List (List ℕ) → Type 0) (new : Recorder D LineAnswers) (after : Option (List ℕ)) → ((lines : List (List ℕ)) → came lines → came' lines)
      → ServedOn seen may_leave clean came old new before after → ServedOn seen may_leave clean came' old new before after
  served_as clean came came' new after as_so s =
      record { lines = s.lines; came = as_so (said s.lines) s.came; tells = s.tells; on = s.on; settled = s.settled }
