-- The files of a command in their turns: what is said of one of them decides what was read.
use Rattle.std.specs.Prelude.{◌⊎◌}
use Rattle.std.proofs.Common.{inl, inr, ◌≡◌, refl, sym, ◌∙◌, ap, subst, ℕ, List, [], ◌∷◌, ◌++◌, Option}
use Rattle.set_model.specs.declared.script.Script.{Script}
use Rattle.set_model.specs.declared.script.SetDecl.{SetDecl}
use Rattle.set_script.specs.ScriptText.{IsScriptText}
use Rattle.set_script.proofs.ScriptWhole.{script_single}
use Rattle.ruleset_sets.proofs.KeptLaws.{kept_script}
use Rattle.key_file.specs.KeysText.{IsKeysText}
use Rattle.rule_chain.specs.RulesText.{IsRulesText}
use Rattle.pcap_keys.specs.PlansText.{IsPlanText}
use Rattle.command_words.specs.Words.{Command, run, list, dump, drill, judge, capture as capture_command, desk, get, explain, compare, stat, judge_capture, sets_of}
use Rattle.input_files.specs.declared.fault.Flaw.{Flaw}
use Rattle.input_files.specs.declared.fault.Flaw.TheVariants as flaws
use Rattle.input_files.specs.Inputs.{Input, FileForm, script, second, rules_of_nft, keys, rules, plan, capture, inputs, form_of, IsOf, IsFlawed, ReadsAs}
use Rattle.input_files.specs.Reads.{AreOf}
use Rattle.input_files.specs.Given.{Has, AreGiven}

-- two files of one list: one comes before the other, or they are the same
pub data Turns (a : List Input) (i : Input) (b : List Input) (j : Input) : Type 0 where
  before : (rest : List Input) → b ≡ a ++ i ∷ rest → Turns a i b j
  behind : (rest : List Input) → a ≡ b ++ j ∷ rest → Turns a i b j
  same : a ≡ b → i ≡ j → Turns a i b j

pub two-turns : (a : List Input) (i : Input) (xs b : List Input) (j : Input) (ys : List Input) → a ++ i ∷ xs ≡ b ++ j ∷ ys → Turns a i b j
two-turns [] i xs [] j ys e = same refl (cc e)
two-turns [] i xs (y ∷ b) j ys e = before b (let k : y ≡ i = cc e in ap (λ z. z ∷ b) k)
two-turns (x ∷ a) i xs [] j ys e = behind a (let k : x ≡ j = cc e in ap (λ z. z ∷ a) k)
two-turns (x ∷ a) i xs (y ∷ b) j ys e = go (two-turns a i xs b j ys (cc e)) where
  here : x ≡ y
  here = cc e

  go : Turns a i b j → Turns (x ∷ a) i (y ∷ b) j
  go (before rest k) = before rest (let h = here in cc (k, h))
  go (behind rest k) = behind rest (let h = here in cc (k, h))
  go (same k l) = same (let h = here in cc (k, h)) l

module _ (told : List ℕ → Option (List ℕ)) where
  -- what holds of files holds of one of them, and of those before it
  pub of-one : (sets : List SetDecl) (a : List Input) (i : Input) (rest : List Input) → AreOf told sets (a ++ i ∷ rest) → ReadsAs told i.name (IsOf i.form sets)
  of-one sets [] i rest h = h.0
  of-one sets (x ∷ a) i rest h = of-one sets a i rest h.1

  pub of-front : (sets : List SetDecl) (a rest : List Input) → AreOf told sets (a ++ rest) → AreOf told sets a
  of-front sets [] rest h = tt
  of-front sets (x ∷ a) rest h = (h.0, of-front sets a rest h.1)

  pub given-one : (sets : List SetDecl) (a : List Input) (i : Input) (rest : List Input) → AreGiven told sets (a ++ i ∷ rest) → Has told i.name (IsOf i.form sets)
  given-one sets [] i rest h = h.0
  given-one sets (x ∷ a) i rest h = given-one sets a i rest h.1

  pub given-front : (sets : List SetDecl) (a rest : List Input) → AreGiven told sets (a ++ rest) → AreGiven told sets a
  given-front sets [] rest h = tt
  given-front sets (x ∷ a) rest h = (h.0, given-front sets a rest h.1)

  -- Files that were read and whose bytes are known are of their forms, for the script that was read.
  pub given-as-read : (other sets : List SetDecl) (a : List Input) → AreGiven told other a → AreOf told sets a → AreGiven told sets a
  given-as-read other sets [] g h = tt
  given-as-read other sets (x ∷ a) g h =
      (record { text = g.0.text; is_told = g.0.is_told; fits = g.0.fits; holds = (h.0 g.0.text g.0.is_told).1 }, given-as-read other sets a g.1 h.1)

-- A flawed text isn't of its form.
pub no-script : (sets others : List SetDecl) (text : List ℕ) (flaw : Flaw) → form_of flaw ≡ script → IsFlawed sets text flaw → IsOf script others text → ⊥
unfolding IsScriptText
no-script sets others text (flaws.Script line reason) e h w = h.outside w.0 w.1
no-script sets others text (flaws.SecondScript line reason) e h w = cc e
no-script sets others text (flaws.Ruleset line reason) e h w = cc e
no-script sets others text (flaws.Keys line reason) e h w = cc e
no-script sets others text (flaws.Rules line reason) e h w = cc e
no-script sets others text (flaws.Plan line reason) e h w = cc e
no-script sets others text (flaws.Capture byte reason) e h w = cc e

no-second : (sets others : List SetDecl) (text : List ℕ) (flaw : Flaw) → form_of flaw ≡ second → IsFlawed sets text flaw → IsOf second others text → ⊥
unfolding IsScriptText
no-second sets others text (flaws.Script line reason) e h w = cc e
no-second sets others text (flaws.SecondScript line reason) e h w = h.outside w.0 w.1
no-second sets others text (flaws.Ruleset line reason) e h w = cc e
no-second sets others text (flaws.Keys line reason) e h w = cc e
no-second sets others text (flaws.Rules line reason) e h w = cc e
no-second sets others text (flaws.Plan line reason) e h w = cc e
no-second sets others text (flaws.Capture byte reason) e h w = cc e

no-ruleset : (sets others : List SetDecl) (text : List ℕ) (flaw : Flaw) → form_of flaw ≡ rules_of_nft → IsFlawed sets text flaw → IsOf rules_of_nft others text → ⊥
unfolding IsScriptText
no-ruleset sets others text (flaws.Script line reason) e h w = cc e
no-ruleset sets others text (flaws.SecondScript line reason) e h w = cc e
no-ruleset sets others text (flaws.Ruleset line reason) e h w = h.holds.outside w.0 (kept_script text h.kept w.0 h.is_kept w.1)
no-ruleset sets others text (flaws.Keys line reason) e h w = cc e
no-ruleset sets others text (flaws.Rules line reason) e h w = cc e
no-ruleset sets others text (flaws.Plan line reason) e h w = cc e
no-ruleset sets others text (flaws.Capture byte reason) e h w = cc e

no-keys : (sets : List SetDecl) (text : List ℕ) (flaw : Flaw) → form_of flaw ≡ keys → IsFlawed sets text flaw → IsOf keys sets text → ⊥
unfolding IsKeysText
no-keys sets text (flaws.Script line reason) e h w = cc e
no-keys sets text (flaws.SecondScript line reason) e h w = cc e
no-keys sets text (flaws.Ruleset line reason) e h w = cc e
no-keys sets text (flaws.Keys line reason) e h w = h.outside w.0 w.1
no-keys sets text (flaws.Rules line reason) e h w = cc e
no-keys sets text (flaws.Plan line reason) e h w = cc e
no-keys sets text (flaws.Capture byte reason) e h w = cc e

no-rules : (sets : List SetDecl) (text : List ℕ) (flaw : Flaw) → form_of flaw ≡ rules → IsFlawed sets text flaw → IsOf rules sets text → ⊥
unfolding IsRulesText
no-rules sets text (flaws.Script line reason) e h w = cc e
no-rules sets text (flaws.SecondScript line reason) e h w = cc e
no-rules sets text (flaws.Ruleset line reason) e h w = cc e
no-rules sets text (flaws.Keys line reason) e h w = cc e
no-rules sets text (flaws.Rules line reason) e h w = h.outside w.0 w.1
no-rules sets text (flaws.Plan line reason) e h w = cc e
no-rules sets text (flaws.Capture byte reason) e h w = cc e

no-plan : (sets : List SetDecl) (text : List ℕ) (flaw : Flaw) → form_of flaw ≡ plan → IsFlawed sets text flaw → IsOf plan sets text → ⊥
unfolding IsPlanText
no-plan sets text (flaws.Script line reason) e h w = cc e
no-plan sets text (flaws.SecondScript line reason) e h w = cc e
no-plan sets text (flaws.Ruleset line reason) e h w = cc e
no-plan sets text (flaws.Keys line reason) e h w = cc e
no-plan sets text (flaws.Rules line reason) e h w = cc e
no-plan sets text (flaws.Plan line reason) e h w = h.outside w.0 w.1
no-plan sets text (flaws.Capture byte reason) e h w = cc e

no-capture : (sets others : List SetDecl) (text : List ℕ) (flaw : Flaw) → form_of flaw ≡ capture → IsFlawed sets text flaw → IsOf capture others text → ⊥
no-capture sets others text (flaws.Script line reason) e h w = cc e
no-capture sets others text (flaws.SecondScript line reason) e h w = cc e
no-capture sets others text (flaws.Ruleset line reason) e h w = cc e
no-capture sets others text (flaws.Keys line reason) e h w = cc e
no-capture sets others text (flaws.Rules line reason) e h w = cc e
no-capture sets others text (flaws.Plan line reason) e h w = cc e
no-capture sets others text (flaws.Capture byte reason) e h w = cc (h, w.1)

pub not-of : (sets : List SetDecl) (text : List ℕ) (flaw : Flaw) (form : FileForm) → form_of flaw ≡ form → IsFlawed sets text flaw → IsOf form sets text → ⊥
not-of sets text flaw script e h w = no-script sets sets text flaw e h w
not-of sets text flaw second e h w = no-second sets sets text flaw e h w
not-of sets text flaw rules_of_nft e h w = no-ruleset sets sets text flaw e h w
not-of sets text flaw keys e h w = no-keys sets text flaw e h w
not-of sets text flaw rules e h w = no-rules sets text flaw e h w
not-of sets text flaw plan e h w = no-plan sets text flaw e h w
not-of sets text flaw capture e h w = no-capture sets sets text flaw e h w

-- The first file of a command is its script, or it is a ruleset and no other file follows.
first-is-script : (c : Command) (a : List Input) (i : Input) (later : List Input) → inputs c ≡ a ++ i ∷ later → (a ≡ [] → (i.form ≡ script) ⊎ (i.form ≡ rules_of_nft)) × ((f : Input) (fs : List Input) → a ≡ f ∷ fs → f.form ≡ script)
first-is-script c a i later e = go c a e where
  head-is : (x : Input) (xs : List Input) (a : List Input) → x.form ≡ script → x ∷ xs ≡ a ++ i ∷ later → (a ≡ [] → (i.form ≡ script) ⊎ (i.form ≡ rules_of_nft)) × ((f : Input) (fs : List Input) → a ≡ f ∷ fs → f.form ≡ script)
  head-is x xs [] form e = (λ _. let k : x ≡ i = cc e in inl (ap (λ z. z.form) (sym k) ∙ form), λ f fs k. absurd (cc k))
  head-is x xs (y ∷ ys) form e = (λ k. absurd (cc k), λ f fs k. let l : x ≡ f = cc (e, k) in ap (λ z. z.form) (sym l) ∙ form)

  go : (c : Command) (a : List Input) → inputs c ≡ a ++ i ∷ later → (a ≡ [] → (i.form ≡ script) ⊎ (i.form ≡ rules_of_nft)) × ((f : Input) (fs : List Input) → a ≡ f ∷ fs → f.form ≡ script)
  go (run s k n g) a e = head-is _ _ a refl e
  go (list s g) a e = head-is _ _ a refl e
  go (dump s g) a e = head-is _ _ a refl e
  go (stat s g) a e = head-is _ _ a refl e
  go (desk s g) a e = head-is _ _ a refl e
  go (get s k m g) a e = head-is _ _ a refl e
  go (explain s k g) a e = head-is _ _ a refl e
  go (compare f s g) a e = head-is _ _ a refl e
  go (sets_of f) [] e = (λ _. let k : record { name = f; form = rules_of_nft } ≡ i = cc e in inr (ap (λ (z : Input). z.form) (sym k)), λ g fs k. absurd (cc k))
  go (sets_of f) (x ∷ []) e = absurd (cc e)
  go (sets_of f) (x ∷ y ∷ a) e = absurd (cc e)
  go (judge s r k n g) a e = head-is _ _ a refl e
  go (judge_capture s r p f n g) a e = head-is _ _ a refl e
  go (capture_command s p f n g) a e = head-is _ _ a refl e
  go (drill s k n) [] e = absurd (cc e)
  go (drill s k n) (x ∷ a) e = absurd (cc e)

-- If the bytes of a file are known and of its form, the file isn't flawed.
pub given-refuses : (told : List ℕ → Option (List ℕ)) (c : Command) (a : List Input) (i : Input) (later : List Input) (sets others : List SetDecl) (flaw : Flaw) → inputs c ≡ a ++ i ∷ later → AreOf told sets a → form_of flaw ≡ i.form → ReadsAs told i.name (λ text. IsFlawed sets text flaw)
    → AreGiven told others a → Has told i.name (IsOf i.form others) → ⊥
given-refuses told c a i later sets others flaw e are form flawed given has = go a e are given where
  bad : IsFlawed sets has.text flaw
  bad = (flawed has.text has.is_told).1

  first-refuses : (i.form ≡ script) ⊎ (i.form ≡ rules_of_nft) → ⊥
  first-refuses (inl is) = no-script sets others has.text flaw (form ∙ is) bad (subst (λ (f : FileForm). IsOf f others has.text) is has.holds)
  first-refuses (inr is) = no-ruleset sets others has.text flaw (form ∙ is) bad (subst (λ (f : FileForm). IsOf f others has.text) is has.holds)

  go : (a : List Input) → inputs c ≡ a ++ i ∷ later → AreOf told sets a → AreGiven told others a → ⊥
  go [] e are given = first-refuses ((first-is-script c [] i later e).0 refl)
  go (f ∷ fs) e are given =
      let is = (first-is-script c (f ∷ fs) i later e).1 f fs refl in
      let mine : IsOf script sets given.0.text = subst (λ (x : FileForm). IsOf x sets given.0.text) is (are.0 given.0.text given.0.is_told).1 in
      let theirs : IsOf script others given.0.text = subst (λ (x : FileForm). IsOf x others given.0.text) is given.0.holds in
      let one : mine.0 ≡ theirs.0 = script_single given.0.text mine.0 theirs.0 mine.1 theirs.1 in
      let same_sets : others ≡ sets = sym theirs.2 ∙ sym (ap (λ (s : Script). s.schema) one) ∙ mine.2 in
      not-of sets has.text flaw i.form form bad (subst (λ (z : List SetDecl). IsOf i.form z has.text) same_sets has.holds)
