-- Programs whose scripts break a rule first, and one that breaks none.
use Rattle.std.specs.Prelude.{refl, pos, [], ◌∷◌, Some, None}
use Rattle.sync_base.specs.declared.stops.Rule.TheVariants as rules
use Rattle.sync_base.specs.declared.strategies.OpMode.TheVariants as modes
use Rattle.sync_base.specs.declared.strategies.Strategy.TheVariants as strategies
use Rattle.sync_terms.specs.Plans as plan
use Rattle.sync_terms.specs.Trees as tree
use Rattle.sync_terms.specs.Trees.{replaced, replaced_in, tree_size, formula_size}
use Rattle.sync_machine.specs.Machines as acts
use Rattle.sync_machine.specs.Machines.{MachineTree}
use Rattle.sync_thread.specs.declared.operands.Opd.TheVariants as opd
use Rattle.sync_thread.specs.declared.operands.Rel.TheVariants as rel
use Rattle.sync_thread.specs.declared.operands.WordOp.TheVariants as op
use Rattle.sync_thread.specs.Control as c
use Rattle.sync_thread.specs.Programs as p
use Rattle.sync_thread.specs.Programs.{ProgramTree}
use Rattle.sync_rules.specs.Locality.{names_only, form_names_only}
use Rattle.sync_rules.specs.Obligations.{names, form_names}
use Rattle.sync_rules.specs.Slots.{needs, started_at, updated_to, act_slot}
use Rattle.sync_kernel_facts.specs.Facts.{facts_size}
use Rattle.sync_typing.specs.Laws.{IsBroken, IsTyped}

-- ---- line 6 breaks I2

--   version 1;
--   machine Q { field t: count; init b() { init t = 3; } }
--   proofs { b at 1 by { same; } }
--   program { start b() () -> (t) {
--   split t -> (x, y) 1 by { same; } by { same; }
--   by { same; }; } }

i2_machine : MachineTree
i2_machine =
    record {
      name = 0;
      fields = (record { name = 1; strategy = strategies.Count; line = 2 } ∷ []);
      ops = (record {
        name = 3;
        mode = modes.Init;
        params = ([]);
        steps = (record { act = acts.Init 0 (tree.Lit (pos 3)); line = 2 } ∷ []);
        line = 2;
      } ∷ []);
      invariants = ([]);
    }

i2_program : ProgramTree
i2_program =
    record {
      decls = ([]);
      start = Some
          (record {
            form =
                (record {
                  op = 0;
                  args = ([]);
                  tokens = ([]);
                  given = (1 ∷ []);
                  label = None;
                  scripts = ([]);
                  line = 4;
                });
            steps = (record {
              what = p.Split 1 4 5 (tree.Lit (pos 1)) (record { plan = plan.Same 5 (plan.End 5); line = 5 }
                  ∷ record { plan = plan.Same 5 (plan.End 5); line = 5 }
                  ∷ record { plan = plan.Same 6 (plan.End 6); line = 6 }
                  ∷ []);
              line = 5;
            } ∷ []);
            line = 4;
          });
      threads = ([]);
      last = None;
    }

pub breaks_i2 : IsBroken rules.I2
unfolding i2_machine i2_program replaced replaced_in tree_size formula_size names_only form_names_only names form_names needs started_at updated_to act_slot facts_size
breaks_i2 =
    record { machine = i2_machine; program = i2_program; line = 6; breaks = refl }

-- ---- line 11 breaks K4

--   version 1;
--   machine Q { field c: variable;
--   init b() { init c = 5; } }
--   program {
--   word w[1] = 0 { }
--   start b() () -> (t) {
--   give a (); }
--   thread a () { } ends () { } {
--   x = load w[0];
--   if x = 1 @h { end (); } else {
--   assert x = 1 by { same; };
--   end (); }
--   }
--   }

k4_machine : MachineTree
k4_machine =
    record {
      name = 0;
      fields = (record { name = 1; strategy = strategies.Variable; line = 2 } ∷ []);
      ops = (record {
        name = 3;
        mode = modes.Init;
        params = ([]);
        steps = (record { act = acts.Init 0 (tree.Lit (pos 5)); line = 3 } ∷ []);
        line = 3;
      } ∷ []);
      invariants = ([]);
    }

k4_program : ProgramTree
k4_program =
    record {
      decls =
          (p.Word (record { name = 4; len = 1; init = 0; names = ([]); clauses = ([]); fact = None; line = 5 }) ∷ []);
      start = Some
          (record {
            form =
                (record {
                  op = 0;
                  args = ([]);
                  tokens = ([]);
                  given = (5 ∷ []);
                  label = None;
                  scripts = ([]);
                  line = 6;
                });
            steps = (record { what = p.Give 6 ([]) ([]); line = 7 } ∷ []);
            line = 6;
          });
      threads = (record {
        name = 6;
        takes = (record { names = ([]); lines = ([]); facts = ([]); line = 8 });
        ends = (record { names = ([]); lines = ([]); facts = ([]); line = 8 });
        body = (c.On
            (p.Operate
            (record {
              op = (op.Load);
              local = (Some 7);
              word = 4;
              index = (record { operand = (opd.Number 0); scripts = ([]) });
              label = None;
            })
            (record { what = p.Still []; line = 9 } ∷ [])) 9
            (c.If (record {
              cond = record { left = (opd.Local 7); rel = rel.Eq; right = (opd.Number 1) };
              label = (Some 8);
            }) 10 (c.End (record { args = ([]); scripts = ([]) }) 10 (c.Brace 10))
            (c.Do (p.Proof
            (p.Assert (tree.Eq (tree.Name 92) (tree.Lit (pos 1))) None
            (record { plan = plan.Same 11 (plan.End 11); line = 11 }
            ∷ []))) 11 (c.End (record { args = ([]); scripts = ([]) }) 12 (c.Brace 12))) None (c.Brace 13)));
        line = 8;
      } ∷ []);
      last = None;
    }

pub breaks_k4 : IsBroken rules.K4
unfolding k4_machine k4_program replaced replaced_in tree_size formula_size names_only form_names_only names form_names needs started_at updated_to act_slot facts_size
breaks_k4 =
    record { machine = k4_machine; program = k4_program; line = 11; breaks = refl }

-- ---- no rule is broken

--   version 1;
--   machine Z { init begin() { } }
--   program {
--   cell c[2] = 0;
--   start begin() () -> () { move c[0] -> p; give a (); }
--   thread a () { p: perm [0 => 0]; } ends () { } {
--   write c[0] = 5 with p;
--   end ();
--   }
--   }

none_machine : MachineTree
none_machine =
    record {
      name = 0;
      fields = ([]);
      ops = (record { name = 1; mode = modes.Init; params = ([]); steps = ([]); line = 2 } ∷ []);
      invariants = ([]);
    }

none_program : ProgramTree
none_program =
    record {
      decls = (p.Cell (record { name = 2; len = 2; init = 0; line = 4 }) ∷ []);
      start = Some
          (record {
            form =
                (record { op = 0; args = ([]); tokens = ([]); given = ([]); label = None; scripts = ([]); line = 5 });
            steps = (record { what = p.Move (record { name = 2; at = (Some 0) }) 3; line = 5 }
                ∷ record { what = p.Give 4 ([]) ([]); line = 5 } ∷ []);
            line = 5;
          });
      threads = (record {
        name = 4;
        takes = (record {
          names = ([]);
          lines = (record {
            name = 3;
            shape = record { field = None; key = (Some (tree.Lit (pos 0))); value = (Some (tree.Lit (pos 0))) };
            line = 6;
          }
              ∷ []);
          facts = ([]);
          line = 6;
        });
        ends = (record { names = ([]); lines = ([]); facts = ([]); line = 6 });
        body = (c.On (p.Write 2 (record { operand = (opd.Number 0); scripts = ([]) }) (opd.Number 5) 3 ([])) 7
            (c.End (record { args = ([]); scripts = ([]) }) 8 (c.Brace 9)));
        line = 6;
      } ∷ []);
      last = None;
    }

pub breaks_none : IsTyped
unfolding none_machine none_program replaced replaced_in tree_size formula_size names_only form_names_only names form_names needs started_at updated_to act_slot facts_size
breaks_none = record { machine = none_machine; program = none_program; breaks = refl }
