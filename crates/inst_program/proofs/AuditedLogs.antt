-- Logs that were audited one after another.
use Rattle.std.proofs.Common.{◌≡◌, ◌∙◌, ◌⊎◌, inl, inr, ◌+◌, ◌-◌, ◌<◌, ◌≤◌, ℕ, zero, suc, Bor, map, take, Bool, true, false, List, [], ◌∷◌, ◌++◌, length, length-append, get_or, Option, None, Some, IfSome, refl, sym, ap, subst, arith, append-nil}
use Rattle.std.specs.List.{concat}
use Rattle.std.proofs.lemmas.Bool.{cases_lt}
use Rattle.std.proofs.lemmas.List.{get_or_append_left, length-map, length-take-le, map-append, take_more}
use Rattle.std.proofs.lemmas.List.Folds.{concat-append}
use Rattle.std.proofs.Math.Seq.{get_or-append_seam}
use Rattle.inst_chain.specs.declared.digest.Digest.{Digest}
use Rattle.inst_journal.specs.History.{History}
use Rattle.inst_log.specs.Opening.{lines_after_settings}
use Rattle.inst_logged.specs.Answering.{AreBooksAfter, past_after}
use Rattle.inst_program.specs.Files.{Change}
use Rattle.inst_program.specs.Auditing.{AreAudited, IsAuditedAs, IsClosedAs, IsNextLog, file_at}
use Rattle.inst_program.specs.Keeping.{CarriesBooks, HasContents, IsLogOfAHub, IsPreviousOf, NextHub}
use Rattle.inst_program.specs.inner.Auditing.{IsAudited}
use Rattle.inst_program.specs.declared.auditing.AuditedLog.{AuditedLog}

below_or_last : (i n : ℕ) → i < n + 1 → (i < n) ⊎ (i ≡ n)
below_or_last i n below = grind arith

-- none yet
pub none_audited : (bytes : List ℕ → List ℕ) → AreAudited bytes [] []
none_audited bytes = record {
  texts = [];
  one_each = refl;
  lines = λ i below. absurd (omega (arith, below));
  next = λ i below. absurd (omega (arith, below));
  is = refl;
}

module _ (bytes : List ℕ → List ℕ) (names : List (List ℕ)) (text name line : List ℕ) (all : AreAudited bytes names text) (one : IsAuditedAs name (bytes name) line)
    (after : 0 < length names → IsNextLog (file_at bytes names (length names - 1)) (bytes name)) where
  abbrev n : ℕ
  n = length names

  abbrev more : List (List ℕ)
  more = names ++ name ∷ []

  abbrev texts : List (List ℕ)
  texts = all.texts ++ line ∷ []

  before : (i : ℕ) → i < n → get_or more i [] ≡ get_or names i []
  before i below = get_or_append_left names (name ∷ []) [] i below

  last : get_or more n [] ≡ name
  last = get_or-append_seam names name [] []

  text_before : (i : ℕ) → i < n → get_or texts i [] ≡ get_or all.texts i []
  text_before i below = get_or_append_left all.texts (line ∷ []) [] i (omega (arith, below, all.one_each))

  text_last : get_or texts n [] ≡ line
  text_last = ap (λ (k : ℕ). get_or texts k []) (sym all.one_each) ∙ get_or-append_seam all.texts line [] []

  line_at : (i : ℕ) → (i < n) ⊎ (i ≡ n) → IsAuditedAs (get_or more i []) (file_at bytes more i) (get_or texts i [])
  line_at i (inl below) =
      subst (λ (t : List ℕ). IsAuditedAs (get_or more i []) (file_at bytes more i) t) (sym (text_before i below))
      (subst (λ (m : List ℕ). IsAuditedAs m (bytes m) (get_or all.texts i [])) (sym (before i below)) (all.lines i below))
  line_at i (inr at) =
      subst (λ (k : ℕ). IsAuditedAs (get_or more k []) (file_at bytes more k) (get_or texts k [])) (sym at)
      (subst (λ (t : List ℕ). IsAuditedAs (get_or more n []) (file_at bytes more n) t) (sym text_last)
      (subst (λ (m : List ℕ). IsAuditedAs m (bytes m) line) (sym last) one))

  next_at : (i : ℕ) → (i + 1 < n) ⊎ (i + 1 ≡ n) → IsNextLog (file_at bytes more i) (file_at bytes more (i + 1))
  next_at i (inl below) =
      subst (λ (m : List ℕ). IsNextLog (bytes m) (file_at bytes more (i + 1))) (sym (before i (omega (arith, below))))
      (subst (λ (m : List ℕ). IsNextLog (file_at bytes names i) (bytes m)) (sym (before (i + 1) below)) (all.next i below))
  next_at i (inr at) =
      let here : length names - 1 ≡ i = omega (arith, at) in
      subst (λ (m : List ℕ). IsNextLog (bytes m) (file_at bytes more (i + 1))) (sym (before i (omega (arith, at))))
      (subst (λ (m : List ℕ). IsNextLog (file_at bytes names i) (bytes m)) (sym (ap (λ (k : ℕ). get_or more k []) at ∙ last))
      (subst (λ (k : ℕ). IsNextLog (file_at bytes names k) (bytes name)) here (after (omega (arith, at)))))

  -- one log more was audited
  pub one_audited : AreAudited bytes (names ++ name ∷ []) (text ++ line)
  one_audited = record {
    texts = texts;
    one_each = length-append all.texts (line ∷ []) ∙ ap (λ (k : ℕ). k + 1) all.one_each ∙ sym (length-append names (name ∷ []));
    lines = λ i below. line_at i (below_or_last i n (omega (arith, below, length-append names (name ∷ []))));
    next = λ i below. next_at i (below_or_last (i + 1) n (omega (arith, below, length-append names (name ∷ []))));
    is = ap (λ (t : List ℕ). t ++ line) all.is ∙ sym (concat-append all.texts (line ∷ []) ∙ ap (λ (t : List ℕ). concat all.texts ++ t) (append-nil line));
  }

-- what a first line says of the log before it
pub said_new : (positions : Bool) (file : List ℕ) (log : AuditedLog) (previous : Option Digest) → positions ≡ true → previous ≡ log.contents.digest → IsAudited file log → IsPreviousOf positions file previous
said_new positions file log previous new same is =
    subst (λ (b : Bool). IsPreviousOf b file previous) (sym new)
    (log.contents.first.items, log.contents.lines, subst (HasContents file log.contents.first.items log.contents.lines) (sym same) is.has)

pub said_nothing : (positions : Bool) (file : List ℕ) (previous : Option Digest) → positions ≡ false → previous ≡ None → IsPreviousOf positions file previous
said_nothing positions file previous old none = subst (λ (b : Bool). IsPreviousOf b file previous) (sym old) none

-- a hub that was closed for a next log was closed so
closed_with : (wanted : Option Digest) (file : List ℕ) (closed : NextHub) → wanted ≡ None → (log : IsLogOfAHub wanted file) (journals : List History)
    → AreBooksAfter log.mode log.past (lines_after_settings log.first file) journals
    → closed ≡ record { mode = log.mode; settings = (past_after log.mode log.past (lines_after_settings log.first file)).settings; journals = journals } → IsClosedAs file closed
closed_with wanted file closed none =
    subst (λ (w : Option Digest). (log : IsLogOfAHub w file) (journals : List History) → AreBooksAfter log.mode log.past (lines_after_settings log.first file) journals
    → ◌≡◌ {A = NextHub} closed (record { mode = log.mode; settings = (past_after log.mode log.past (lines_after_settings log.first file)).settings; journals = journals }) → IsClosedAs file closed)
    (sym none) (λ log journals books is. record { log = log; journals = journals; books = books; closed_is = is })

pub closed_as : (mixes : Type 0) (closed : NextHub) (c : Change) → CarriesBooks None mixes closed c → IsClosedAs c.was closed
closed_as mixes closed c x = closed_with x.wanted c.was closed x.asked x.log x.journals x.books x.next_is

-- ---- a loop over the names

abbrev pub no_path : Bor (List ℕ)
no_path = record { ref_ptr = (0, 0); now = [] }

abbrev pub names_of : List (Bor (List ℕ)) → List (List ℕ)
names_of paths = map (λ (path : Bor (List ℕ)). path.now) paths

take_all : (n : ℕ) (xs : List (Bor (List ℕ))) → length xs ≤ n → take n xs ≡ xs
take_all zero [] past = refl
take_all zero (x ∷ xs) past = absurd (omega (arith, past))
take_all (suc n) [] past = refl
take_all (suc n) (x ∷ xs) past = ap (λ l. x ∷ l) (take_all n xs (omega (arith, past)))

pub all_audited : (bytes : List ℕ → List ℕ) (paths : List (Bor (List ℕ))) (i : ℕ) (text : List ℕ) → length paths ≤ i → AreAudited bytes (names_of (take i paths)) text → AreAudited bytes (names_of paths) text
all_audited bytes paths i text past = subst (λ (l : List (Bor (List ℕ))). AreAudited bytes (names_of l) text) (take_all i paths past)

module _ (bytes : List ℕ → List ℕ) (paths : List (Bor (List ℕ))) (i : ℕ) (inside : i < length paths) where
  abbrev name : List ℕ
  name = (get_or paths i no_path).now

  abbrev before_it : List (List ℕ)
  before_it = names_of (take i paths)

  so_many : length before_it ≡ i
  so_many = length-map (take i paths) (λ (path : Bor (List ℕ)). path.now) ∙ length-take-le i paths (omega (arith, inside))

  one_name_more : names_of (take (i + 1) paths) ≡ before_it ++ name ∷ []
  one_name_more = ap names_of (take_more paths i no_path inside) ∙ map-append (λ (path : Bor (List ℕ)). path.now) (take i paths) (get_or paths i no_path ∷ [])

  -- the next log was audited
  pub next_audited : (text text' line : List ℕ) → text' ≡ text ++ line → AreAudited bytes before_it text → IsAuditedAs name (bytes name) line → (0 < i → IsNextLog (file_at bytes before_it (i - 1)) (bytes name))
      → AreAudited bytes (names_of (take (i + 1) paths)) text'
  next_audited text text' line is all one after =
      subst (λ (l : List (List ℕ)). AreAudited bytes l text') (sym one_name_more)
      (subst (AreAudited bytes (before_it ++ name ∷ [])) (sym is)
      (one_audited bytes before_it text name line all one
      (λ some. subst (λ (n : ℕ). IsNextLog (file_at bytes before_it (n - 1)) (bytes name)) (sym so_many) (after (omega (arith, some, so_many))))))

  -- it is the last one now
  pub last_now : (P : List ℕ → Type 0) → P (bytes name) → P (file_at bytes (names_of (take (i + 1) paths)) (i + 1 - 1))
  last_now P is =
      let at : i + 1 - 1 ≡ length before_it = omega (arith, so_many) in
      let here : get_or (names_of (take (i + 1) paths)) (i + 1 - 1) [] ≡ name = ap (λ (l : List (List ℕ)). get_or l (i + 1 - 1) []) one_name_more ∙ ap (λ (n : ℕ). get_or (before_it ++ name ∷ []) n []) at ∙ get_or-append_seam before_it name [] [] in
      subst (λ (m : List ℕ). P (bytes m)) (sym here) is

-- a log follows the one before it, if there is one
pub after_one : (before : Option AuditedLog) (i : ℕ) (file last_file : List ℕ) → (before ≡ None → i ≡ 0) → IfSome before (λ one. (f : List ℕ) → IsAudited f one → IsNextLog f file) → IfSome before (λ one. IsAudited last_file one) → 0 < i → IsNextLog last_file file
after_one None i file last_file none follows is some = absurd (omega (arith, none refl, some))
after_one (Some one) i file last_file none follows is some = follows last_file is
