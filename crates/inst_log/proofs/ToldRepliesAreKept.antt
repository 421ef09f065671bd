-- What is told is kept.
use Rattle.std.proofs.Common.{◌≡◌, ⊎_elim, inl, ℕ, ◌≤◌, ◌+◌, ◌-◌, List, [], ◌∷◌, ◌++◌, Option, Vec, length, take, drop, append_assoc, length-append, refl, sym, ◌∙◌, ap, subst, arith}
use Rattle.std.proofs.Math.Seq.{take-append-add}
use Rattle.std.proofs.lemmas.List.{append-nil, take_all, take-append-le, drop-append-le, drop_at}
use Rattle.std.specs.Io.KnownBytes.{Appends}
use Rattle.inst_log.specs.Layout.{recovered_lines, blocks, IsBatch}
use Rattle.inst_log.specs.Opening.{lines_after_settings, OpensLog}
use Rattle.inst_log.specs.Log.{IsBeforeOrAfter}
use Rattle.std.specs.declared.alloc.Global.{Global}
use Rattle.inst_base.specs.Handing.{WritesPart}
use Rattle.inst_log.specs.Serving.{Replies, Covers, TellsKept, Tells, SaysOn, AllBatches, batch_lines, Owing}
use Rattle.inst_log.specs.inner.Serving.{TellsFront, Served}
use Rattle.inst_log.proofs.Lines.{recovered_blocks, all_lines, blocks-append, AllLines-drop}
use Rattle.inst_base.proofs.Streams.{Appends-append, Appends-keeps, Keeps-same}

-- what was written of the bytes of some replies
pub part_told : (says : Replies → Type 0) (lines : List (List ℕ)) (before now : Option (List ℕ)) (out : List ℕ) → WritesPart before now out → ((f : Replies) → says f → out ≡ f lines) → TellsFront says lines before now
part_told says lines before now out w are =
    record { told = w.part; handed = w.appends; front = λ f said. (w.rest, sym (are f said) ∙ w.whole) }

-- nothing else stands where the replies were put
pub only_these : (says : Replies → Type 0) (lines : List (List ℕ)) (before out : List ℕ) → before ≡ [] → ((f : Replies) → says f → out ≡ before ++ f lines) → (f : Replies) → says f → out ≡ f lines
only_these says lines before out none are f said = are f said ∙ ap (λ (l : List ℕ). l ++ f lines) none

pub all_told : (says : Replies → Type 0) (lines : List (List ℕ)) (before now : Option (List ℕ)) (out : List ℕ) → Appends before now out → ((f : Replies) → says f → out ≡ f lines) → Tells says lines before now
all_told says lines before now out wrote are =
    record { told = out; handed = wrote; whole = λ f said. sym (are f said) }

module _ (says : Replies → Type 0) (first read : List (List ℕ)) where
  covers_none : (stand : List (List ℕ)) → ((f : Replies) → says f → f [] ≡ []) → stand ≡ first → Covers says first read [] stand
  covers_none stand none same =
      record { n = 0; few = omega arith; lines = same ∙ sym (append-nil first); covers = λ f said. ([], none f said) }

  pub covers_all : (told : List ℕ) (stand : List (List ℕ)) → ((f : Replies) → says f → (rest : List ℕ) × (f read ≡ told ++ rest)) → stand ≡ first ++ read → Covers says first read told stand
  covers_all told stand front same =
      let all : take (length read) read ≡ read = take_all (length read) read (omega arith) in
      record {
        n = length read;
        few = omega arith;
        lines = same ∙ ap (λ (ls : List (List ℕ)). first ++ ls) (sym all);
        covers = λ f said. ((front f said).0, ap f all ∙ (front f said).1);
      }

  -- nothing was told
  pub kept_before : (may_leave : List ℕ → Type 0) (now : Option (List ℕ)) → ((f : Replies) → says f → f [] ≡ []) → ((c : List ℕ) → may_leave c → IsBeforeOrAfter first read c) → TellsKept recovered_lines may_leave says first read now now
  kept_before may_leave now none left =
      record {
        told = [];
        handed = Appends-keeps now now (Keeps-same now);
        kept = λ c may. ⊎_elim (covers_none (recovered_lines c) none) (covers_all [] (recovered_lines c) (λ f said. (f read, refl))) (left c may);
      }

  -- all is on the disk, and some was told
  pub kept_after : (may_leave : List ℕ → Type 0) (before now : Option (List ℕ)) → TellsFront says read before now → ((c : List ℕ) → may_leave c → recovered_lines c ≡ first ++ read) → TellsKept recovered_lines may_leave says first read before now
  kept_after may_leave before now t left =
      record {
        told = t.told;
        handed = t.handed;
        kept = λ c may. covers_all t.told (recovered_lines c) t.front (left c may);
      }

-- some lines, and then others
pub on_more : (old mid now : Replies → Type 0) (first more : List (List ℕ)) → SaysOn old first mid → SaysOn mid more now → SaysOn old (first ++ more) now
on_more old mid now first more on next f said =
    let (g, said-g, goes-g) = on f said in
    let (h, said-h, goes-h) = next g said-g in (
      h,
      said-h,
      λ rest.
          ap f (append_assoc first more rest) ∙ goes-g (more ++ rest) ∙ ap (λ (l : List ℕ). f first ++ l) (goes-h rest)
          ∙ sym (append_assoc (f first) (g more) (h rest)) ∙ ap (λ (l : List ℕ). l ++ h rest) (sym (goes-g more)),
    )

pub tells_more : (old mid : Replies → Type 0) (before at after : Option (List ℕ)) (first more : List (List ℕ)) → SaysOn old first mid → Tells old first before at → Tells mid more at after → Tells old (first ++ more) before after
tells_more old mid before at after first more on t next =
    record {
      told = t.told ++ next.told;
      handed = Appends-append before at after t.told next.told t.handed next.handed;
      whole = λ f said.
          let (g, said-g, goes-g) = on f said in
          goes-g more ∙ ap (λ (l : List ℕ). l ++ g more) (t.whole f said) ∙ ap (λ (l : List ℕ). t.told ++ l) (next.whole g said-g);
    }

module _ (old : Replies → Type 0) (before : Option (List ℕ)) (batches : List (Vec ℕ Global)) where
  -- none yet
  pub served_none : (keeps : List (List ℕ) → Type 0) → ((f : Replies) → old f → f [] ≡ []) → AllBatches batches → keeps [] → Served keeps old old before before batches batches
  served_none keeps none all kept =
      record {
        done = [];
        split = refl;
        all = all;
        tells = record { told = []; handed = Appends-keeps before before (Keeps-same before); whole = none };
        on = λ f said. (f, said, λ more. ap (λ (l : List ℕ). l ++ f more) (sym (none f said)));
        kept = kept;
      }

  -- one batch more
  pub served_more : (keeps keeps' : List (List ℕ) → Type 0) (mid now : Replies → Type 0) (at after : Option (List ℕ)) (left rest : List (Vec ℕ Global)) (batch : Vec ℕ Global) → left ≡ batch ∷ rest
      → Served keeps old mid before at batches left → Tells mid (recovered_lines batch.items) at after → SaysOn mid (recovered_lines batch.items) now
      → ((done : List (List ℕ)) → keeps done → keeps' (done ++ recovered_lines batch.items)) → Served keeps' old now before after batches rest
  served_more keeps keeps' mid now at after left rest batch next s told on stays =
      let lines = recovered_lines batch.items in
      record {
        done = s.done ++ lines;
        split = append_assoc s.done lines (batch_lines rest) ∙ ap (λ (l : List (Vec ℕ Global)). s.done ++ batch_lines l) (sym next) ∙ s.split;
        all = (subst AllBatches next s.all).1;
        tells = tells_more old mid before at after s.done lines s.on s.tells told;
        on = on_more old mid now s.done lines s.on on;
        kept = stays s.done s.kept;
      }

  -- these have no more bytes than all
  pub served_len : (keeps : List (List ℕ) → Type 0) (now : Replies → Type 0) (after : Option (List ℕ)) (left : List (Vec ℕ Global)) → (s : Served keeps old now before after batches left) → length (blocks s.done) ≤ length (blocks (batch_lines batches))
  served_len keeps now after left s =
      omega (arith, ap (λ (ls : List (List ℕ)). length (blocks ls)) s.split, ap length (blocks-append s.done (batch_lines left)), length-append (blocks s.done) (blocks (batch_lines left)))

  -- a batch that failed
  pub kept_on : (keeps : List (List ℕ) → Type 0) (mid : Replies → Type 0) (at after : Option (List ℕ)) (left rest : List (Vec ℕ Global)) (batch : Vec ℕ Global) (first here : List (List ℕ)) (may_leave : List ℕ → Type 0) → left ≡ batch ∷ rest
      → (s : Served keeps old mid before at batches left) → here ≡ first ++ s.done → TellsKept recovered_lines may_leave mid here (recovered_lines batch.items) at after → TellsKept recovered_lines may_leave old first (batch_lines batches) before after
  kept_on keeps mid at after left rest batch first here may_leave next s stands t =
      let lines = recovered_lines batch.items in
      let all : s.done ++ (lines ++ batch_lines rest) ≡ batch_lines batches = ap (λ (l : List (Vec ℕ Global)). s.done ++ batch_lines l) (sym next) ∙ s.split in
      record {
        told = s.tells.told ++ t.told;
        handed = Appends-append before at after s.tells.told t.told s.tells.handed t.handed;
        kept = λ c may.
            let k = t.kept c may in
            let front : take (length s.done + k.n) (batch_lines batches) ≡ s.done ++ take k.n lines =
            ap (take (length s.done + k.n)) (sym all) ∙ take-append-add s.done (lines ++ batch_lines rest) k.n
            ∙ ap (λ (ls : List (List ℕ)). s.done ++ ls) (take-append-le k.n lines (batch_lines rest) k.few) in
            record {
              n = length s.done + k.n;
              few = omega (arith, ap length all, length-append s.done (lines ++ batch_lines rest), length-append lines (batch_lines rest), k.few);
              lines = k.lines ∙ ap (λ (ls : List (List ℕ)). ls ++ take k.n lines) stands ∙ append_assoc first s.done (take k.n lines) ∙ ap (λ (ls : List (List ℕ)). first ++ ls) (sym front);
              covers = λ f said.
                  let (g, said-g, goes-g) = s.on f said in
                  let (rest, covers) = k.covers g said-g in (
                    rest,
                    ap f front ∙ goes-g (take k.n lines) ∙ ap (λ (l : List ℕ). l ++ g (take k.n lines)) (s.tells.whole f said)
                        ∙ ap (λ (l : List ℕ). s.tells.told ++ l) covers ∙ sym (append_assoc s.tells.told t.told rest),
                  );
            };
      }

  -- all of them
  pub kept_all : (keeps : List (List ℕ) → Type 0) (mid : Replies → Type 0) (at : Option (List ℕ)) (left : List (Vec ℕ Global)) (first : List (List ℕ)) (may_leave : List ℕ → Type 0) → left ≡ []
      → (s : Served keeps old mid before at batches left) → ((c : List ℕ) → may_leave c → recovered_lines c ≡ first ++ s.done) → TellsKept recovered_lines may_leave old first (batch_lines batches) before at
  kept_all keeps mid at left first may_leave none s stands =
      let all : s.done ≡ batch_lines batches = sym (append-nil s.done) ∙ ap (λ (l : List (Vec ℕ Global)). s.done ++ batch_lines l) (sym none) ∙ s.split in
      let t : TellsFront old (batch_lines batches) before at = record {
        told = s.tells.told;
        handed = s.tells.handed;
        front = λ f said. ([], ap f (sym all) ∙ s.tells.whole f said ∙ sym (append-nil s.tells.told));
      } in
      kept_after old first (batch_lines batches) may_leave before at t (λ c may. stands c may ∙ ap (λ (ls : List (List ℕ)). first ++ ls) all)

module _ (says : Replies → Type 0) (first : List (List ℕ)) where
  pub stands_behind : (settings : List ℕ) (here more : List (List ℕ)) (c : List ℕ) → here ≡ recovered_lines settings ++ first → recovered_lines c ≡ here ++ more → recovered_lines c ≡ recovered_lines settings ++ (first ++ more)
  stands_behind settings here more c same lines =
      lines ∙ ap (λ (ls : List (List ℕ)). ls ++ more) same ∙ append_assoc (recovered_lines settings) first more

  pub kept_behind : (settings : List ℕ) (here more : List (List ℕ)) (c : List ℕ) → here ≡ recovered_lines settings ++ first → recovered_lines c ≡ here ++ more → lines_after_settings settings c ≡ first ++ more
  kept_behind settings here more c same lines =
      ap (drop (length (recovered_lines settings))) (stands_behind settings here more c same lines)
      ∙ drop_at (recovered_lines settings) (first ++ more) (length (recovered_lines settings)) refl

  -- the log was opened, and its lines were answered again
  pub run_kept : (settings : List ℕ) (may_leave : List ℕ → Type 0) (mid : Replies → Type 0) (before at after : Option (List ℕ)) (here lines : List (List ℕ)) → SaysOn says [] mid
      → Tells says [] before at → here ≡ recovered_lines settings ++ first → TellsKept recovered_lines may_leave mid here lines at after → TellsKept (lines_after_settings settings) may_leave says first lines before after
  run_kept settings may_leave mid before at after here lines on w same t =
      record {
        told = w.told ++ t.told;
        handed = Appends-append before at after w.told t.told w.handed t.handed;
        kept = λ c may.
            let k = t.kept c may in
            record {
              n = k.n;
              few = k.few;
              lines = kept_behind settings here (take k.n lines) c same k.lines;
              covers = λ f said.
                  let (g, said-g, goes-g) = on f said in
                  let (rest, covers) = k.covers g said-g in (
                    rest,
                    goes-g (take k.n lines) ∙ ap (λ (l : List ℕ). l ++ g (take k.n lines)) (w.whole f said)
                        ∙ ap (λ (l : List ℕ). w.told ++ l) covers ∙ sym (append_assoc w.told t.told rest),
                  );
            };
      }

  -- the log opens again
  pub run_opens : (settings : List ℕ) (may_leave : List ℕ → Type 0) (mid : Replies → Type 0) (at after : Option (List ℕ)) (here lines : List (List ℕ)) → here ≡ recovered_lines settings ++ first
      → TellsKept recovered_lines may_leave mid here lines at after → (c : List ℕ) → may_leave c → OpensLog settings c
  run_opens settings may_leave mid at after here lines same t c may =
      let k = t.kept c may in
      inl (stands_behind settings here (take k.n lines) c same k.lines
      ∙ ap (λ (ls : List (List ℕ)). recovered_lines settings ++ ls) (sym (kept_behind settings here (take k.n lines) c same k.lines)))

  -- it failed while it was opened
  pub reopen_kept : (settings : List ℕ) (may_leave : List ℕ → Type 0) (before at : Option (List ℕ)) (lines : List (List ℕ)) → TellsFront says [] before at
      → ((c : List ℕ) → may_leave c → lines_after_settings settings c ≡ first) → TellsKept (lines_after_settings settings) may_leave says first lines before at
  reopen_kept settings may_leave before at lines t left =
      record {
        told = t.told;
        handed = t.handed;
        kept = λ c may.
            record {
              n = 0;
              few = omega arith;
              lines = left c may ∙ sym (append-nil first);
              covers = t.front;
            };
      }

module _ (old : Replies → Type 0) (first : List (List ℕ)) (n : ℕ) where
  -- what is owed goes on as what is said, once the log's lines were answered again
  pub owing_on : (mid : Replies → Type 0) → SaysOn old first mid → ((f : Replies) → old f → n ≤ length (f first)) → SaysOn (Owing old first n) [] mid
  owing_on mid on few owing (f, said, is) =
      let (g, said-g, goes-g) = on f said in (
        g,
        said-g,
        λ more. ap (λ (o : Replies). o more) is ∙ ap (drop n) (goes-g more) ∙ drop-append-le n (f first) (g more) (few f said)
            ∙ ap (λ (l : List ℕ). drop n l ++ g more) (ap f (sym (append-nil first))) ∙ ap (λ (o : Replies). o [] ++ g more) (sym is),
      )

  -- what is left of the replies to the log's lines is what is owed
  pub owed_now : (out : List ℕ) → ((f : Replies) → old f → out ≡ f first) → (g : Replies) → Owing old first n g → drop n out ≡ g []
  owed_now out are g (f, said, is) =
      ap (drop n) (are f said ∙ ap f (sym (append-nil first))) ∙ ap (λ (o : Replies). o []) (sym is)

-- behind the settings a text of a log's lines has the others
pub text_behind : (settings text : List ℕ) (file : List ℕ) → IsBatch settings → text ≡ blocks (recovered_lines settings ++ lines_after_settings settings file) → recovered_lines (drop (length settings - 1) text) ≡ lines_after_settings settings file
text_behind settings text file is same =
    let lines = recovered_lines settings in
    let more = lines_after_settings settings file in
    let n : length (blocks lines) ≡ length settings - 1 = omega (arith, ap length is.whole, length-append (blocks lines) (0 ∷ [])) in
    let rest : drop (length settings - 1) text ≡ blocks more =
    ap (drop (length settings - 1)) (same ∙ blocks-append lines more) ∙ drop_at (blocks lines) (blocks more) (length settings - 1) n in
    ap recovered_lines (rest ∙ sym (append-nil (blocks more)))
    ∙ recovered_blocks more [] (AllLines-drop (length lines) (recovered_lines file) (all_lines file)) ∙ append-nil more
