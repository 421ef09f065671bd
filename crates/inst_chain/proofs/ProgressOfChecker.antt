-- How a checker goes on, line by line.
use Rattle.std.proofs.Common.{◌≡◌, inl, inr, ℕ, ◌<◌, true, false, List, [], ◌∷◌, ◌++◌, length, refl, sym, ◌∙◌, ap, subst, arith, append_assoc, length-append}
use Rattle.std.proofs.lemmas.List.{append-nil}
use Rattle.inst_base.specs.Newline.{newline}
use Rattle.inst_log.specs.Layout.{recovered_lines, blocks}
use Rattle.inst_log.proofs.Lines.{blocks-append}
use Rattle.inst_chain.specs.Chain.{is_mark, mark_of, front_of, chained_lines, HasNoMark, HaveNoMark, IsChain}
use Rattle.inst_chain.specs.Checking.{Digests, Counts, EndsMarked, HasGoneThrough, IsWrongAt}
use Rattle.sha2.specs.Hashers.{Holds256}
use Rattle.sha2.specs.declared.Sha256.{Sha256}
use Rattle.inst_chain.specs.Verifying.{SealedBy}
use Rattle.inst_chain.specs.declared.marker.Marker.{Marker}
use Rattle.inst_chain.specs.declared.prefix.Prefix.{Prefix}
use Rattle.inst_chain.specs.declared.checker.Checker.{Checker}
use Rattle.inst_chain.proofs.Digests.{mark_is_mark}
use Rattle.inst_chain.proofs.Chains.{Lines, where_it_is, alone}
use Rattle.inst_chain.proofs.LinesWithoutMarks.{HasNoMark-append}

pub last_same : (lines before : Lines) (line m : List ℕ) → lines ++ line ∷ [] ≡ before ++ m ∷ [] → line ≡ m
last_same lines before line m same = elim (where_it_is lines (line ∷ []) before m [] same) [
  | inl found ↦ absurd (omega (arith, ap length found.then, length-append found.more (line ∷ [])))
  | inr found ↦ (alone line found.more m [] found.here).0
]

-- the lines of a log whose marks and end are right
pub sealed_stands : (new : Checker) (log : List ℕ) (marker : Marker) → SealedBy log marker → new.marker.hasher ≡ marker.hasher → new.sealed ≡ true → new.right ≡ new.came → Counts new.came (recovered_lines log)
    → HasGoneThrough new (recovered_lines log)
sealed_stands new log marker s same sealed all counts =
    let older = s.sealed.chain.batches in
    let split = s.sealed.chain.split in
    record {
      older = older;
      part = [];
      unmarked = s.sealed.chain.unmarked;
      plain = tt;
      split = split ∙ sym (append-nil (chained_lines older));
      digests = subst (Digests new.marker) (sym (append-nil (front_of older))) (subst (λ (h : Sha256). Holds256 h (front_of older)) (sym same) s.digests);
      whole = λ _. (refl, s.sealed.chain.some);
      open_end = λ unsealed. absurd (cc (sealed, unsealed));
      came = counts;
      right = subst (λ (p : Prefix). Counts p (chained_lines older)) (sym all) (subst (Counts new.came) split counts);
    }

-- a line that is no mark
pub plain_stands : (old new : Checker) (lines : Lines) (line : List ℕ) → is_mark line ≡ false → new.sealed ≡ false → new.right ≡ old.right
    → ((ls : Lines) → Counts old.came ls → Counts new.came (ls ++ line ∷ []))
    → ((text : List ℕ) → Digests old.marker text → Digests new.marker ((text ++ line) ++ newline ∷ []))
    → HasGoneThrough old lines → HasGoneThrough new (lines ++ line ∷ [])
plain_stands old new lines line plain unsealed same counts goes s = record {
  older = s.older;
  part = s.part ++ line ∷ [];
  unmarked = s.unmarked;
  plain = HasNoMark-append s.part (line ∷ []) s.plain (plain, tt);
  split = ap (λ (l : Lines). l ++ line ∷ []) s.split ∙ append_assoc (chained_lines s.older) s.part (line ∷ []);
  digests =
      subst (Digests new.marker)
      (append_assoc (front_of s.older ++ blocks s.part) line (newline ∷ [])
      ∙ append_assoc (front_of s.older) (blocks s.part) (line ++ newline ∷ [])
      ∙ ap (λ (l : List ℕ). front_of s.older ++ l) (sym (blocks-append s.part (line ∷ []))))
      (goes (front_of s.older ++ blocks s.part) s.digests);
  whole = λ is. absurd (cc (is, unsealed));
  open_end = λ _ ends. cc (plain, ends.is, ap is_mark (last_same lines ends.before line ends.mark ends.split));
  came = counts lines s.came;
  right = subst (λ (p : Prefix). Counts p (chained_lines s.older)) (sym same) s.right;
}

-- a mark that is right
pub mark_stands : (old new : Checker) (lines : Lines) (line : List ℕ) → new.sealed ≡ true → new.right ≡ new.came
    → ((ls : Lines) → Counts old.came ls → Counts new.came (ls ++ line ∷ []))
    → (s : HasGoneThrough old lines) → line ≡ mark_of (front_of s.older ++ blocks s.part)
    → Digests new.marker (mark_of (front_of s.older ++ blocks s.part) ++ newline ∷ [])
    → HasGoneThrough new (lines ++ line ∷ [])
mark_stands old new lines line sealed same counts s is digests =
    let split : lines ++ line ∷ [] ≡ chained_lines (s.part ∷ s.older) ++ [] =
    (λ i. s.split i ++ is i ∷ [])
    ∙ append_assoc (chained_lines s.older) s.part (mark_of (front_of s.older ++ blocks s.part) ∷ [])
    ∙ sym (append-nil (chained_lines (s.part ∷ s.older))) in
    record {
      older = s.part ∷ s.older;
      part = [];
      unmarked = (s.plain, s.unmarked);
      plain = tt;
      split = split;
      digests = subst (Digests new.marker) (sym (append-nil (mark_of (front_of s.older ++ blocks s.part) ++ newline ∷ []))) digests;
      whole = λ _. (refl, omega arith);
      open_end = λ no_end. absurd (cc (no_end, sealed));
      came = counts lines s.came;
      right = subst (λ (p : Prefix). Counts p (chained_lines (s.part ∷ s.older))) (sym same)
          (subst (Counts new.came) (split ∙ append-nil (chained_lines (s.part ∷ s.older))) (counts lines s.came));
    }

-- ---- each mark is right

-- of a chain that goes on with these lines, where `text` stands since the last mark, each mark is right
abbrev pub Follows : List ℕ → List (List ℕ) → Type 0
Follows text [] = Unit {0}
Follows text (line ∷ lines) = (is_mark line ≡ true → (line ≡ mark_of text) × Follows (line ++ newline ∷ []) lines)
    × (is_mark line ≡ false → Follows (text ++ (line ++ newline ∷ [])) lines)

through_part : (text : List ℕ) (part rest : Lines) → HasNoMark part → Follows text (part ++ rest) → Follows (text ++ blocks part) rest
through_part text [] rest none follows = subst (λ (t : List ℕ). Follows t rest) (sym (append-nil text)) follows
through_part text (line ∷ part) rest none follows =
    let deeper = through_part (text ++ (line ++ newline ∷ [])) part rest none.1 (follows.1 none.0) in
    subst (λ (t : List ℕ). Follows t rest)
    (append_assoc text (line ++ newline ∷ []) (blocks part) ∙ ap (λ (l : List ℕ). text ++ l) (append_assoc line (newline ∷ []) (blocks part)))
    deeper

pub through : (older : List Lines) (rest : Lines) → HaveNoMark older → Follows [] (chained_lines older ++ rest) → Follows (front_of older) rest
through [] rest none follows = follows
through (batch ∷ older) rest none follows =
    let text = front_of older ++ blocks batch in
    let mark = mark_of text in
    let same : (chained_lines older ++ (batch ++ mark ∷ [])) ++ rest ≡ chained_lines older ++ (batch ++ mark ∷ rest) =
    append_assoc (chained_lines older) (batch ++ mark ∷ []) rest ∙ ap (λ (l : Lines). chained_lines older ++ l) (append_assoc batch (mark ∷ []) rest) in
    let before = through older (batch ++ mark ∷ rest) none.1 (subst (Follows []) same follows) in
    ((through_part (front_of older) batch (mark ∷ rest) none.0 before).0 (mark_is_mark text)).1

back_part : (text : List ℕ) (part rest : Lines) → HasNoMark part → Follows (text ++ blocks part) rest → Follows text (part ++ rest)
back_part text [] rest none follows = subst (λ (t : List ℕ). Follows t rest) (append-nil text) follows
back_part text (line ∷ part) rest none follows =
    let deeper = back_part (text ++ (line ++ newline ∷ [])) part rest none.1
    (subst (λ (t : List ℕ). Follows t rest)
    (sym (append_assoc text (line ++ newline ∷ []) (blocks part) ∙ ap (λ (l : List ℕ). text ++ l) (append_assoc line (newline ∷ []) (blocks part))))
    follows) in
    (λ is. absurd (cc (is, none.0)), λ _. deeper)

back : (older : List Lines) (rest : Lines) → HaveNoMark older → Follows (front_of older) rest → Follows [] (chained_lines older ++ rest)
back [] rest none follows = follows
back (batch ∷ older) rest none follows =
    let text = front_of older ++ blocks batch in
    let mark = mark_of text in
    let same : (chained_lines older ++ (batch ++ mark ∷ [])) ++ rest ≡ chained_lines older ++ (batch ++ mark ∷ rest) =
    append_assoc (chained_lines older) (batch ++ mark ∷ []) rest ∙ ap (λ (l : Lines). chained_lines older ++ l) (append_assoc batch (mark ∷ []) rest) in
    let here : Follows text (mark ∷ rest) = (λ _. (refl, follows), λ other. absurd (cc (other, mark_is_mark text))) in
    subst (Follows []) (sym same) (back older (batch ++ mark ∷ rest) none.1 (back_part (front_of older) batch (mark ∷ rest) none.0 here))

-- a chain's marks are right, whatever lines follow that have right marks too
pub chain_follows : (lines : Lines) → IsChain lines → Follows [] lines
chain_follows lines chain =
    subst (Follows []) (append-nil (chained_lines chain.batches) ∙ sym chain.split) (back chain.batches [] chain.unmarked tt)

ends_marked : (batches : List Lines) → 0 < length batches → EndsMarked (chained_lines batches)
ends_marked [] some = absurd (omega arith)
ends_marked (batch ∷ older) some =
    let text = front_of older ++ blocks batch in
    record {
      before = chained_lines older ++ batch;
      mark = mark_of text;
      is = mark_is_mark text;
      split = sym (append_assoc (chained_lines older) batch (mark_of text ∷ []));
    }

pub chain_ends : (lines : Lines) → IsChain lines → EndsMarked lines
chain_ends lines chain = subst EndsMarked (sym chain.split) (ends_marked chain.batches chain.some)

-- at a mark that is wrong
pub right_mark : (checker : Checker) (lines : Lines) (line : List ℕ) (more : Lines) (s : HasGoneThrough checker lines) → is_mark line ≡ true → Follows [] (lines ++ line ∷ more)
    → line ≡ mark_of (front_of s.older ++ blocks s.part)
right_mark checker lines line more s is follows =
    let same : lines ++ line ∷ more ≡ chained_lines s.older ++ (s.part ++ line ∷ more) =
    ap (λ (l : Lines). l ++ line ∷ more) s.split ∙ append_assoc (chained_lines s.older) s.part (line ∷ more) in
    ((through_part (front_of s.older) s.part (line ∷ more) s.plain (through s.older (s.part ++ line ∷ more) s.unmarked (subst (Follows []) same follows))).0 is).0

-- lines that all came are a chain where the checker is sealed
pub sealed_chain : (checker : Checker) (lines : Lines) → HasGoneThrough checker lines → checker.sealed ≡ true → IsChain lines
sealed_chain checker lines s is =
    let whole = s.whole is in
    record {
      batches = s.older;
      some = whole.1;
      unmarked = s.unmarked;
      split = s.split ∙ ap (λ (l : Lines). chained_lines s.older ++ l) whole.0 ∙ append-nil (chained_lines s.older);
    }

-- a checker took the lines between
pub record Takes (old new : Checker) (bytes rest : List ℕ) : Type 0 where
  pub done : Lines
  pub split : recovered_lines bytes ≡ done ++ recovered_lines rest
  pub stands : (lines : Lines) → HasGoneThrough old lines → HasGoneThrough new (lines ++ done)

pub takes_none : (checker : Checker) (bytes : List ℕ) → Takes checker checker bytes bytes
takes_none checker bytes = record { done = []; split = refl; stands = λ lines s. subst (HasGoneThrough checker) (sym (append-nil lines)) s }

pub takes_one : (old mid new : Checker) (bytes rest behind line : List ℕ) → Takes old mid bytes rest → recovered_lines rest ≡ line ∷ recovered_lines behind
    → ((lines : Lines) → HasGoneThrough mid lines → HasGoneThrough new (lines ++ line ∷ [])) → Takes old new bytes behind
takes_one old mid new bytes rest behind line t first goes = record {
  done = t.done ++ line ∷ [];
  split = t.split ∙ ap (λ (l : Lines). t.done ++ l) first ∙ sym (append_assoc t.done (line ∷ []) (recovered_lines behind));
  stands = λ lines s. subst (HasGoneThrough new) (append_assoc lines t.done (line ∷ [])) (goes (lines ++ t.done) (t.stands lines s));
}

pub takes_wrong : (old mid : Checker) (bytes rest behind line : List ℕ) → Takes old mid bytes rest → recovered_lines rest ≡ line ∷ recovered_lines behind → is_mark line ≡ true
    → ((lines : Lines) → (s : HasGoneThrough mid lines) → line ≡ mark_of (front_of s.older ++ blocks s.part) → ⊥) → IsWrongAt old bytes mid.right
takes_wrong old mid bytes rest behind line t first mark wrong = record {
  mid = mid;
  done = t.done;
  line = line;
  rest = recovered_lines behind;
  split = t.split ∙ ap (λ (l : Lines). t.done ++ l) first;
  stands = t.stands;
  mark = mark;
  wrong = wrong;
  same = refl;
}

pub takes_all : (old new : Checker) (bytes rest : List ℕ) → Takes old new bytes rest → recovered_lines rest ≡ [] → (lines : Lines) → HasGoneThrough old lines → HasGoneThrough new (lines ++ recovered_lines bytes)
takes_all old new bytes rest t none lines s =
    subst (λ (l : Lines). HasGoneThrough new (lines ++ l)) (sym (t.split ∙ ap (λ (l : Lines). t.done ++ l) none ∙ append-nil t.done)) (t.stands lines s)
