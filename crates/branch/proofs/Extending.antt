-- The stores of an extension.
use Rattle.std.proofs.Common.{ℕ, ◌+◌, ◌*◌, ◌<◌, ◌≤◌, List, arith, length, get_or}
use Rattle.instance.specs.Limits.{most_variables, most_clauses, most_weight}
use Rattle.instance.specs.Memory.{cells_size}
use Rattle.instance.specs.Clause.{hard, soft, soft_of}
use Rattle.instance.specs.Within.{In}
use Rattle.instance.specs.Store.{literal_of}
use Rattle.instance.specs.Theorems.Codes.{code_literal}
use Rattle.journal.specs.Undo.{Put}
use Rattle.journal.specs.Theorems.Stores.{later_put}
use Rattle.calculus.specs.Branch.{unit_of}
use Rattle.branch.specs.Cells.{marks_at, shuts_at, at}
use Rattle.branch.specs.Works.{most_entries}
use Rattle.branch.specs.Extensions.{Open, Coded, Coming, Spent, Gained}
use Rattle.branch.proofs.Literals.{literal_in_lem}
use Rattle.branch.proofs.Rules.{spend_room, works_spent, works_mark, works_weight, gain_small}

pub coded_in : (c : ℕ) → Coded c → In most_variables (literal_of c)
coded_in c r = literal_in_lem most_variables c r.0 (omega (arith, r.1))

-- the log has room for the entry of a spent clause
pub open_room : (cells : List ℕ) (top k : ℕ) → Open cells top k → k < most_clauses → top + 5 ≤ most_entries
open_room cells top k (cs, d, b, h, can) lt = spend_room h lt can

-- nothing overflows in a gain
pub coming_small : (cells : List ℕ) (top w c : ℕ) → Coming cells top (soft w) → Coded c → get_or cells c 0 + w ≤ most_weight
unfolding at soft_of
coming_small cells top w c (cs, d, b, h) coded = rw (code_literal c) at (gain_small top h (literal_of c) (coded_in c coded))

module _ {cells log cells' log' : List ℕ} {top top' : ℕ} (size : cells_size ≤ length cells) (room : 2 * top + 1 < length log) where
  pub spends : {k : ℕ} → k < most_clauses → Put cells log top (shuts_at + k) 1 cells' log' top' → Spent cells log top k cells' log' top'
  unfolding at
  spends lt p = record {
    height = p.height;
    later = later_put p (omega arith) room;
    works = λ cs d b h can. rw p.stored (works_spent h lt can);
  }

  module _ {c : ℕ} (coded : Coded c) where
    pub gains_mark : Put cells log top (marks_at + c) 1 cells' log' top' → Gained cells log top c hard cells' log' top'
    unfolding at soft_of unit_of
    gains_mark p = record {
      height = p.height;
      later = later_put p (omega (arith, coded.1)) room;
      works = λ cs d b h. rw p.stored (rw (code_literal c) at (works_mark top h (literal_of c) (coded_in c coded)));
    }

    pub gains_weight : {w : ℕ} → Put cells log top c (get_or cells c 0 + w) cells' log' top' → Gained cells log top c (soft w) cells' log' top'
    unfolding at soft_of unit_of
    gains_weight p = record {
      height = p.height;
      later = later_put p (omega (arith, coded.1)) room;
      works = λ cs d b h. rw p.stored (rw (code_literal c) at (works_weight top h (literal_of c) (coded_in c coded)));
    }
