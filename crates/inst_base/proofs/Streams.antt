-- Bytes that are read and written piece by piece.
use Rattle.std.proofs.Common.{◌≡◌, ℕ, List, [], ◌++◌, Option, Some, None, take, drop, refl, sym, ap, ◌∙◌, append_assoc}
use Rattle.std.proofs.lemmas.List.{append-nil, take-append-drop}
use Rattle.std.specs.Io.KnownBytes.{Appends, Consumes, Keeps}
use Rattle.inst_base.specs.Handing.{WritesPart, WritesFirst}

-- two reads in turn
pub Consumes-append : (x y z : Option (List ℕ)) (p q : List ℕ) → Consumes x y p → Consumes y z q → Consumes x z (p ++ q)
Consumes-append None y z p q h k = tt
Consumes-append (Some x) None z p q h k = absurd h
Consumes-append (Some x) (Some y) None p q h k = absurd k
Consumes-append (Some x) (Some y) (Some z) p q h k = h ∙ ap (λ (t : List ℕ). p ++ t) k ∙ sym (append_assoc p q z)

-- two writes in turn
pub Appends-append : (x y z : Option (List ℕ)) (p q : List ℕ) → Appends x y p → Appends y z q → Appends x z (p ++ q)
Appends-append None y z p q h k = tt
Appends-append (Some x) None z p q h k = absurd h
Appends-append (Some x) (Some y) None p q h k = absurd k
Appends-append (Some x) (Some y) (Some z) p q h k = k ∙ ap (λ (t : List ℕ). t ++ q) h ∙ append_assoc x p q

pub Appends-keeps : (x y : Option (List ℕ)) → Keeps x y → Appends x y []
Appends-keeps None y h = tt
Appends-keeps (Some x) None h = absurd h
Appends-keeps (Some x) (Some y) h = h ∙ sym (append-nil x)

pub Consumes-keeps : (x y : Option (List ℕ)) → Keeps x y → Consumes x y []
Consumes-keeps None y h = tt
Consumes-keeps (Some x) None h = absurd h
Consumes-keeps (Some x) (Some y) h = sym h

pub Keeps-same : (x : Option (List ℕ)) → Keeps x x
Keeps-same None = tt
Keeps-same (Some x) = refl

pub rests-write : (before after now : Option (List ℕ)) (bytes rest : List ℕ) (n : ℕ) → WritesFirst before after bytes rest → Appends after now (take n rest) → WritesFirst before now bytes (drop n rest)
rests-write before after now bytes rest n r w = record {
  part = r.part ++ take n rest;
  whole = r.whole ∙ ap (λ (t : List ℕ). r.part ++ t) (sym (take-append-drop n rest)) ∙ sym (append_assoc r.part (take n rest) (drop n rest));
  appends = Appends-append before after now r.part (take n rest) r.appends w;
}

-- nothing was written
pub writes-none : (now : Option (List ℕ)) (bytes : List ℕ) → WritesPart now now bytes
writes-none now bytes = record { part = []; rest = bytes; whole = refl; appends = Appends-keeps now now (Keeps-same now) }

-- all was written
pub writes-all : (before after : Option (List ℕ)) (bytes left : List ℕ) → Appends before after bytes → left ≡ [] → WritesFirst before after bytes left
writes-all before after bytes left w none = record { part = bytes; whole = sym (ap (λ (t : List ℕ). bytes ++ t) none ∙ append-nil bytes); appends = w }
