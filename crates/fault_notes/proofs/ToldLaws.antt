-- What holds of a text that is printed.
use Rattle.std.proofs.Common.{◌≡◌, sym, subst, ℕ, Bool, false, List, Option, Result, Ok, Err, OnErr}
use Rattle.std.specs.Prelude.{IfOk}
use Rattle.fault_notes.specs.Told.{MayTell, nothing, note, SaysTold, did_tell, told_nothing}

-- If something holds of a printed note, so does what follows from it.
pub tells-as : (P Q : List ℕ → Type 0) (before now : Option (List ℕ)) → ((text : List ℕ) → P text → Q text) → MayTell P before now → MayTell Q before now
tells-as P Q before now follows (nothing same) = nothing same
tells-as P Q before now follows (note text quiet is told) = note text quiet (follows text is) told

-- The same of the answer to whether a note was printed.
says-as : {P Q : List ℕ → Type 0} {before now : Option (List ℕ)} {answer : Bool} → ((text : List ℕ) → P text → Q text) → SaysTold P before now answer → SaysTold Q before now answer
says-as follows (did_tell text quiet is tells) = did_tell text quiet (follows text is) tells
says-as follows (told_nothing same) = told_nothing same

-- Who knows the answer knows that one note was printed, or none.
pub may_tell : {IsNote : List ℕ → Type 0} {before now : Option (List ℕ)} {answer : Bool} → SaysTold IsNote before now answer → MayTell IsNote before now
may_tell (did_tell text quiet is tells) = note text quiet is tells
may_tell (told_nothing same) = nothing same

-- What holds of a note that was made holds of the text that is printed.
pub made-told : {T E : Type 0} (made : Result T E) (bytes : T → List ℕ) (P : List ℕ → Type 0) (before now : Option (List ℕ)) → IfOk made (λ n. MayTell (λ text. text ≡ bytes n) before now) → OnErr made (now ≡ before) → IfOk made (λ n. P (bytes n)) → MayTell P before now
made-told (Ok n) bytes P before now tells same is = tells-as (λ text. text ≡ bytes n) P before now (λ text e. subst P (sym e) is) tells
made-told (Err e) bytes P before now tells same is = nothing same

-- The same, with the answer.
pub made-says : {T E : Type 0} {answer : Bool} (made : Result T E) (bytes : T → List ℕ) (P : List ℕ → Type 0) (before now : Option (List ℕ)) → IfOk made (λ n. SaysTold (λ text. text ≡ bytes n) before now answer) → OnErr made (now ≡ before) → OnErr made (answer ≡ false) → IfOk made (λ n. P (bytes n)) → SaysTold P before now answer
made-says (Ok n) bytes P before now says same says_no is = says-as (λ text e. subst P (sym e) is) says
made-says (Err e) bytes P before now says same is_no is = subst (SaysTold P before now) (sym is_no) (told_nothing same)

-- what holds of a result may be said in other words
pub if-ok-as : {T E : Type 0} (made : Result T E) (P Q : T → Type 0) → ((n : T) → P n → Q n) → IfOk made P → IfOk made Q
if-ok-as (Ok n) P Q follows is = follows n is
if-ok-as (Err e) P Q follows is = tt

-- two facts of a result give a third
pub if-ok-both : {T E : Type 0} (made : Result T E) (P Q R : T → Type 0) → ((n : T) → P n → Q n → R n) → IfOk made P → IfOk made Q → IfOk made R
if-ok-both (Ok n) P Q R follows is also = follows n is also
if-ok-both (Err e) P Q R follows is also = tt

-- what holds in any case holds of a result
pub if-ok-any : {T E P : Type 0} (made : Result T E) → P → IfOk made (λ _. P)
if-ok-any (Ok n) is = is
if-ok-any (Err e) is = tt
