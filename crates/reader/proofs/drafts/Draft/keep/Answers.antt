-- A look at the clause's codes says whether it has the literal or its opposite.
use Rattle.std.proofs.Common.{ℕ, Bool, false, List, map, ◌≡◌, refl, sym, ◌∙◌}
use Rattle.instance.specs.Clause.{Literal, occurs}
use Rattle.instance.specs.Store.{literal_of}
use Rattle.reader.specs.Drafts.{literals_from, again, opposed, new}
use Rattle.reader.proofs.drafts.Draft.keep.Goals as goal
use Rattle.reader.proofs.drafts.Draft.keep.Goals.{Else-has}

looked : (code : ℕ) {l : Literal} {lent codes : List ℕ} {found answer : Bool} → literal_of code ≡ l → lent ≡ codes
    → found ≡ occurs (literal_of code) (map literal_of lent) → found ≡ answer → occurs l (map literal_of codes) ≡ answer
looked code e k f h = rw (← e, ← k) (sym f ∙ h)

pub returns-then-has : goal.returns-then-has
returns-then-has c = record {
  lent = refl;
  store = again (looked _ refl c.codes.ensures c.has.ensures c.if-has.true);
  counts = cc;
  start = refl;
}

none : (c : Else-has) → let d = c.args.self.now in
    occurs (literal_of c.args.code) (literals_from d.store.now d.start d.kept) ≡ false
none c = looked _ refl c.codes.ensures c.has.ensures c.if-has.false

pub returns-then-is_opposed : goal.returns-then-is_opposed
returns-then-is_opposed c = record {
  lent = refl;
  store =
      opposed (none (goal.at.returns-then-is_opposed c).Else-has)
      (looked _ c.opposite.ensures c.codes-2.ensures c.has-is_opposed.ensures c.if-is_opposed.true);
  counts = cc;
  start = refl;
}

pub returns-else-is_opposed : goal.returns-else-is_opposed
returns-else-is_opposed c = record {
  lent = refl;
  store =
      new (none (goal.at.returns-else-is_opposed c).Else-has)
      (looked _ c.opposite.ensures c.codes-2.ensures c.has-is_opposed.ensures c.if-is_opposed.false);
  counts = cc;
  start = refl;
}
