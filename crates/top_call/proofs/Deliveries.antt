-- What is written in pieces.
use Rattle.std.proofs.Common.{◌≡◌, refl, ap, ℕ, ◌+◌, ◌≤◌, zero-add, suc-add, Result, Ok, Err, OnErr, List, [], ◌∷◌, ◌++◌, length, take, Option, Some, None, arith}
use Rattle.std.proofs.lemmas.List.{length-append, take-append-le}
use Rattle.std.specs.Io.KnownBytes.{Appends, Keeps}
use Rattle.pip_base.specs.Causes.{Rose}
use Rattle.pip_base.specs.Whole.{AppendsFront}
use Rattle.pip_base.proofs.Bytes.{appends-more}
use Rattle.top_call.specs.Answers.{Ends, written, cut, memory, IsExactly}

-- a front of the first piece is one of both
pub front-first : (a b : Option (List ℕ)) (xs ys : List ℕ) → AppendsFront a b xs → AppendsFront a b (xs ++ ys)
front-first a b xs ys h = record {
  count = h.count;
  part = rw (length-append xs ys) (omega (arith, h.part));
  front = let within : h.count ≤ length xs = omega (arith, h.part) in rw (take-append-le h.count xs ys within) h.front;
}

take-behind : (n : ℕ) (xs ys : List ℕ) → take (length xs + n) (xs ++ ys) ≡ xs ++ take n ys
take-behind n [] ys = rw zero-add refl
take-behind n (x ∷ xs) ys = rw (suc-add (length xs) n) (ap (λ z. x ∷ z) (take-behind n xs ys))

-- the first piece and a front of the second are a front of both
pub front-second : (a b c : Option (List ℕ)) (xs ys : List ℕ) → Appends a b xs → AppendsFront b c ys → AppendsFront a c (xs ++ ys)
front-second a b c xs ys h k = record {
  count = length xs + k.count;
  part = rw (length-append xs ys) (omega (arith, k.part));
  front = rw (take-behind k.count xs ys) (appends-more a b c xs (take k.count ys) h k.front);
}

-- the same of a result
pub front-behind : {T E : Type 0} (r : Result T E) (a b c : Option (List ℕ)) (xs ys : List ℕ) → Appends a b xs → OnErr r (AppendsFront b c ys) → OnErr r (AppendsFront a c (xs ++ ys))
front-behind (Ok x) a b c xs ys h k = tt
front-behind (Err e) a b c xs ys h k = front-second a b c xs ys h k

pub nothing-taken : (a : Option (List ℕ)) → Keeps a a
nothing-taken None = tt
nothing-taken (Some xs) = refl

-- what is due may be said in other words
pub ends-map : (due other : ℕ → List ℕ → Type 0) (before now : Option (List ℕ)) (b n r : ℕ) → ((s : ℕ) (t : List ℕ) → due s t → other s t) → Ends due before now b n r → Ends other before now b n r
ends-map due other before now b n r f (written status text d a e) = written status text (f status text d) a e
ends-map due other before now b n r f (cut status text d a e) = cut status text (f status text d) a e
ends-map due other before now b n r f (memory d k e) = memory (f 7 [] d) k e

pub ends-written : (status : ℕ) (text : List ℕ) (before now : Option (List ℕ)) (b n : ℕ) → Appends before now text → n ≡ b → Ends (IsExactly status text) before now b n status
ends-written status text before now b n h e = written status text (refl, refl) h e

pub ends-cut : (status : ℕ) (text : List ℕ) (before now : Option (List ℕ)) (b n : ℕ) → AppendsFront before now text → Rose b n → Ends (IsExactly status text) before now b n 6
ends-cut status text before now b n h e = cut status text (refl, refl) h e

pub ends-memory : (before : Option (List ℕ)) (b : ℕ) → Ends (IsExactly 7 []) before before b b 7
ends-memory before b = memory (refl, refl) (nothing-taken before) refl
