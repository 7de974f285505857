-- What the statements of a script and their parts add to what has been read.
use Rattle.std.specs.Prelude.{ℕ, ◌+◌, List, [], ◌∷◌, ◌++◌, length, Bool, true, false, nat_lt, Option, Some, None, cond}
use Rattle.set_model.specs.declared.kind.Kind.{Kind}
use Rattle.set_model.specs.declared.kind.Interval.{Interval}
use Rattle.set_model.specs.declared.element.NewElement.{NewElement}
use Rattle.set_model.specs.declared.script.Family.{Family}
use Rattle.set_model.specs.declared.script.SetDecl.{SetDecl}
use Rattle.set_model.specs.declared.script.Verb.{Verb}
use Rattle.set_model.specs.declared.script.Verb.TheVariants as verbs
use Rattle.set_model.specs.declared.script.Step.{Step}
use Rattle.set_model.specs.declared.script.Step.TheVariants as steps
use Rattle.set_model.specs.declared.script.Script.{Script}
use Rattle.set_model.specs.Runnable.{is_open}
use Rattle.set_script.specs.declared.draft.Draft.{Draft}
use Rattle.set_script.specs.declared.draft.Declaration.{Declaration}
use Rattle.set_script.specs.declared.draft.Target.{Target}
use Rattle.set_script.specs.declared.draft.Options.{Options}
use Rattle.set_script.specs.declared.words.Flag.{Flag}
use Rattle.set_script.specs.declared.words.Flag.TheVariants as flags

-- before the first statement
abbrev pub empty : Draft
empty = record { schema = []; sections = []; steps = []; moment = 0; begun = false; late = false }

-- A set whose kinds have been read, after the declared sets. It has no flag, no timeout and no size
-- yet, and its item `elements` adds elements to it.
abbrev pub declaration : Draft → Family → List ℕ → List ℕ → List Kind → Declaration
declaration d family table name kinds = record {
  target = record { set = length d.schema; verb = verbs.Add; now = d.moment };
  decl = record {
    family = family;
    table = table;
    name = name;
    kinds = kinds;
    interval = false;
    timed = false;
    disjoint = false;
    timeout = None;
    size = None;
  };
  flags = false;
  timeout_flag = false;
  gc_interval = false;
  policy = false;
  comment = false;
  elements = false;
}

-- a flag of the item `flags`
abbrev pub with_flag : Declaration → Flag → Declaration
with_flag b flags.Interval = record b { decl = record b.decl { interval = true }; flags = true }
with_flag b flags.Timeout = record b { decl = record b.decl { timed = true }; flags = true; timeout_flag = true }
with_flag b flags.Disjoint = record b { decl = record b.decl { disjoint = true }; flags = true }

-- The item `timeout`: it also sets the flag.
abbrev pub with_timeout : Declaration → ℕ → Declaration
with_timeout b t = record b { decl = record b.decl { timed = true; timeout = Some t } }

-- the item `size`
abbrev pub with_size : Declaration → ℕ → Declaration
with_size b n = record b { decl = record b.decl { size = Some n } }

-- the items `gc-interval`, `policy` and `comment`, which have no effect on the set
abbrev pub with_gc_interval : Declaration → Declaration
with_gc_interval b = record b { gc_interval = true }

abbrev pub with_policy : Declaration → Declaration
with_policy b = record b { policy = true }

abbrev pub with_comment : Declaration → Declaration
with_comment b = record b { comment = true }

-- the item `elements`
abbrev pub with_elements : Declaration → Declaration
with_elements b = record b { elements = true }

abbrev pub no_options : Options
no_options = record { timeout = None; expires = None; comment = None }

-- The expiry by a life that counts from now. A life of 0 means no expiry.
abbrev pub life_expiry : ℕ → Option ℕ → Option ℕ
life_expiry now None = None
life_expiry now (Some t) = cond (nat_lt 0 t) (Some (now + t)) None

-- an element's own life, or else its set's
abbrev pub life : Option ℕ → Option ℕ → Option ℕ
life default None = default
life default (Some t) = Some t

-- The expiry of an added element: by its `expires`, else by its `timeout`, else by its set's `timeout`.
abbrev pub expiry : ℕ → Option ℕ → Options → Option ℕ
expiry now default o = elim (o.expires) as (λ _. Option ℕ) [ Some t ↦ Some (now + t) | None ↦ life_expiry now (life default o.timeout) ]

abbrev pub comment_of : Option (List ℕ) → List ℕ
comment_of None = []
comment_of (Some text) = text

abbrev pub adds : Verb → Bool
adds verbs.Add = true
adds verbs.Create = true
adds verbs.Delete = false
adds verbs.Destroy = false

-- The change of an element of the set `s`. It has an expiry and a comment if the element is added.
abbrev pub change : Target → SetDecl → ℕ → List Interval → Options → Step
change target s line parts o =
    let e : NewElement = record {
      parts = parts;
      expiry = cond (adds target.verb) (expiry target.now s.timeout o) None;
      comment = cond (adds target.verb) (comment_of o.comment) [];
    } in
    steps.Change line target.set target.verb e target.now

-- the steps of the section, and then those of a list
abbrev pub with_steps : Draft → List Step → Draft
with_steps d steps = record d { steps = steps }

-- a flush, whose statement begins in this line
abbrev pub flush : Draft → ℕ → ℕ → Draft
flush d line set = record d { steps = d.steps ++ steps.Flush line set d.moment ∷ [] }

-- one more set, with the changes of its item `elements`
abbrev pub declared : Declaration → List Step → Draft → Draft
declared b steps d = record d { schema = d.schema ++ b.decl ∷ []; steps = steps }

-- a statement has been read
abbrev pub begun : Draft → Draft
begun d = record d { begun = true }

-- `at`: the moment from here on
abbrev pub at_moment : Draft → ℕ → Draft
at_moment d moment = record d { moment = moment }

-- `commit` commits at the moment of its place, even if there is no change. No set may be declared after
-- it.
abbrev pub commit : Draft → Draft
commit d = record d { steps = d.steps ++ steps.Commit d.moment ∷ []; late = true }

-- `abort` drops the open changes. No set may be declared after it.
abbrev pub abort : Draft → Draft
abort d = record d { steps = d.steps ++ steps.Abort ∷ []; late = true }

-- The end of a section commits an open transaction that has a change, at the moment of its place.
abbrev pub with_commit : ℕ → List Step → List Step
with_commit now ss = cond (is_open ss) (ss ++ steps.Commit now ∷ []) ss

-- the sections up to the end of the one that is being read
abbrev pub ended : Draft → List (List Step)
ended d = d.sections ++ with_commit d.moment d.steps ∷ []

-- `round` ends a section, and the next one begins. No set may be declared after it.
abbrev pub round : Draft → Draft
round d = record d { sections = ended d; steps = []; late = true }

-- The end of a script ends its last section. A script has section 0, and one more section after each
-- `round`, even without steps.
abbrev pub finished_script : Draft → Script
finished_script d = record { schema = d.schema; sections = ended d; last = d.moment }
