-- Programs that break the rules T1 to T5 first.
use Rattle.std.specs.Prelude.{refl, pos, [], ◌∷◌, Some, None}
use Rattle.sync_base.specs.declared.stops.Rule.TheVariants as rules
use Rattle.sync_base.specs.declared.strategies.OpMode.TheVariants as modes
use Rattle.sync_base.specs.declared.strategies.Strategy.TheVariants as strategies
use Rattle.sync_terms.specs.Plans as plan
use Rattle.sync_terms.specs.Trees as tree
use Rattle.sync_terms.specs.Trees.{replaced, replaced_in, tree_size, formula_size}
use Rattle.sync_machine.specs.Machines as acts
use Rattle.sync_machine.specs.Machines.{MachineTree}
use Rattle.sync_thread.specs.declared.operands.Opd.TheVariants as opd
use Rattle.sync_thread.specs.declared.operands.WordOp.TheVariants as op
use Rattle.sync_thread.specs.Control as c
use Rattle.sync_thread.specs.Programs as p
use Rattle.sync_thread.specs.Programs.{ProgramTree}
use Rattle.sync_rules.specs.Locality.{names_only, form_names_only}
use Rattle.sync_rules.specs.Obligations.{names, form_names}
use Rattle.sync_rules.specs.Slots.{needs, started_at, updated_to, act_slot}
use Rattle.sync_kernel_facts.specs.Facts.{facts_size}
use Rattle.sync_typing.specs.Laws.{IsBroken}

-- ---- line 10 breaks T1

--   version 1;
--   machine M {
--   field n: count;
--   init begin() { init n = 5; }
--   }
--   proofs { begin at 1 by { same; } }
--   program {
--   start begin() () -> (t) {
--   split t -> (p, q) 0 by { same; } by { same; };
--   merge (p, t) -> u;
--   }
--   }

t1_machine : MachineTree
t1_machine =
    record {
      name = 0;
      fields = (record { name = 1; strategy = strategies.Count; line = 3 } ∷ []);
      ops = (record {
        name = 3;
        mode = modes.Init;
        params = ([]);
        steps = (record { act = acts.Init 0 (tree.Lit (pos 5)); line = 4 } ∷ []);
        line = 4;
      } ∷ []);
      invariants = ([]);
    }

t1_program : ProgramTree
t1_program =
    record {
      decls = ([]);
      start = Some
          (record {
            form =
                (record {
                  op = 0;
                  args = ([]);
                  tokens = ([]);
                  given = (4 ∷ []);
                  label = None;
                  scripts = ([]);
                  line = 8;
                });
            steps = (record {
              what = p.Split 4 5 6 (tree.Lit (pos 0)) (record { plan = plan.Same 9 (plan.End 9); line = 9 }
                  ∷ record { plan = plan.Same 9 (plan.End 9); line = 9 } ∷ []);
              line = 9;
            }
                ∷ record { what = p.Merge 5 4 7; line = 10 } ∷ []);
            line = 8;
          });
      threads = ([]);
      last = None;
    }

pub breaks_t1 : IsBroken rules.T1
unfolding t1_machine t1_program replaced replaced_in tree_size formula_size names_only form_names_only names form_names needs started_at updated_to act_slot facts_size
breaks_t1 =
    record { machine = t1_machine; program = t1_program; line = 10; breaks = refl }

-- ---- line 5 breaks T2

--   version 1;
--   machine Q { field t: count; init b() { init t = 0; } }
--   proofs { b at 1 by { same; } }
--   program { start b() () -> (t) {
--   split t -> (x, x) 0 by { same; } by { same; }; } }

t2_machine : MachineTree
t2_machine =
    record {
      name = 0;
      fields = (record { name = 1; strategy = strategies.Count; line = 2 } ∷ []);
      ops = (record {
        name = 3;
        mode = modes.Init;
        params = ([]);
        steps = (record { act = acts.Init 0 (tree.Lit (pos 0)); line = 2 } ∷ []);
        line = 2;
      } ∷ []);
      invariants = ([]);
    }

t2_program : ProgramTree
t2_program =
    record {
      decls = ([]);
      start = Some
          (record {
            form =
                (record {
                  op = 0;
                  args = ([]);
                  tokens = ([]);
                  given = (1 ∷ []);
                  label = None;
                  scripts = ([]);
                  line = 4;
                });
            steps = (record {
              what = p.Split 1 4 4 (tree.Lit (pos 0)) (record { plan = plan.Same 5 (plan.End 5); line = 5 }
                  ∷ record { plan = plan.Same 5 (plan.End 5); line = 5 } ∷ []);
              line = 5;
            } ∷ []);
            line = 4;
          });
      threads = ([]);
      last = None;
    }

pub breaks_t2 : IsBroken rules.T2
unfolding t2_machine t2_program replaced replaced_in tree_size formula_size names_only form_names_only names form_names needs started_at updated_to act_slot facts_size
breaks_t2 =
    record { machine = t2_machine; program = t2_program; line = 5; breaks = refl }

-- ---- line 5 breaks T3

--   version 1;
--   machine Q { field t: count; field u: count; init b() { init t = 0; init u = 0; } }
--   proofs { b at 1 by { same; } b at 2 by { same; } }
--   program { start b() () -> (t, u) {
--   merge (t, u) -> x; } }

t3_machine : MachineTree
t3_machine =
    record {
      name = 0;
      fields = (record { name = 1; strategy = strategies.Count; line = 2 }
          ∷ record { name = 3; strategy = strategies.Count; line = 2 } ∷ []);
      ops = (record {
        name = 4;
        mode = modes.Init;
        params = ([]);
        steps = (record { act = acts.Init 0 (tree.Lit (pos 0)); line = 2 }
            ∷ record { act = acts.Init 1 (tree.Lit (pos 0)); line = 2 } ∷ []);
        line = 2;
      } ∷ []);
      invariants = ([]);
    }

t3_program : ProgramTree
t3_program =
    record {
      decls = ([]);
      start = Some
          (record {
            form =
                (record {
                  op = 0;
                  args = ([]);
                  tokens = ([]);
                  given = (1 ∷ 3 ∷ []);
                  label = None;
                  scripts = ([]);
                  line = 4;
                });
            steps = (record { what = p.Merge 1 3 5; line = 5 } ∷ []);
            line = 4;
          });
      threads = ([]);
      last = None;
    }

pub breaks_t3 : IsBroken rules.T3
unfolding t3_machine t3_program replaced replaced_in tree_size formula_size names_only form_names_only names form_names needs started_at updated_to act_slot facts_size
breaks_t3 =
    record { machine = t3_machine; program = t3_program; line = 5; breaks = refl }

-- ---- line 5 breaks T4

--   version 1;
--   machine Q { field c: variable; init b() { init c = 0; }
--   property p() { require c = 1; } }
--   program { start b() () -> (t) {
--   do p() (t) -> (); } }

t4_machine : MachineTree
t4_machine =
    record {
      name = 0;
      fields = (record { name = 1; strategy = strategies.Variable; line = 2 } ∷ []);
      ops = (record {
        name = 3;
        mode = modes.Init;
        params = ([]);
        steps = (record { act = acts.Init 0 (tree.Lit (pos 0)); line = 2 } ∷ []);
        line = 2;
      }
          ∷ record {
            name = 4;
            mode = modes.Property;
            params = ([]);
            steps = (record { act = acts.Require (tree.Eq (tree.Name 0) (tree.Lit (pos 1))); line = 3 } ∷ []);
            line = 3;
          }
          ∷ []);
      invariants = ([]);
    }

t4_program : ProgramTree
t4_program =
    record {
      decls = ([]);
      start = Some
          (record {
            form =
                (record {
                  op = 0;
                  args = ([]);
                  tokens = ([]);
                  given = (5 ∷ []);
                  label = None;
                  scripts = ([]);
                  line = 4;
                });
            steps = (record {
              what = p.Exchange
                  (record {
                    op = 1;
                    args = ([]);
                    tokens = ((record { name = 5; at = None }) ∷ []);
                    given = ([]);
                    label = None;
                    scripts = ([]);
                    line = 5;
                  });
              line = 5;
            } ∷ []);
            line = 4;
          });
      threads = ([]);
      last = None;
    }

pub breaks_t4 : IsBroken rules.T4
unfolding t4_machine t4_program replaced replaced_in tree_size formula_size names_only form_names_only names form_names needs started_at updated_to act_slot facts_size
breaks_t4 =
    record { machine = t4_machine; program = t4_program; line = 5; breaks = refl }

-- ---- line 11 breaks T5

--   version 1;
--   machine Q { field c: variable;
--   init b() { init c = 5; } }
--   program {
--   word w[1] = 0 { }
--   start b() () -> (t) {
--   give a (); }
--   thread a () { } ends () { } {
--   x = load w[0];
--   y = load w[0];
--   assert x = y;
--   end (); }
--   }

t5_machine : MachineTree
t5_machine =
    record {
      name = 0;
      fields = (record { name = 1; strategy = strategies.Variable; line = 2 } ∷ []);
      ops = (record {
        name = 3;
        mode = modes.Init;
        params = ([]);
        steps = (record { act = acts.Init 0 (tree.Lit (pos 5)); line = 3 } ∷ []);
        line = 3;
      } ∷ []);
      invariants = ([]);
    }

t5_program : ProgramTree
t5_program =
    record {
      decls =
          (p.Word (record { name = 4; len = 1; init = 0; names = ([]); clauses = ([]); fact = None; line = 5 }) ∷ []);
      start = Some
          (record {
            form =
                (record {
                  op = 0;
                  args = ([]);
                  tokens = ([]);
                  given = (5 ∷ []);
                  label = None;
                  scripts = ([]);
                  line = 6;
                });
            steps = (record { what = p.Give 6 ([]) ([]); line = 7 } ∷ []);
            line = 6;
          });
      threads = (record {
        name = 6;
        takes = (record { names = ([]); lines = ([]); facts = ([]); line = 8 });
        ends = (record { names = ([]); lines = ([]); facts = ([]); line = 8 });
        body = (c.On
            (p.Operate
            (record {
              op = (op.Load);
              local = (Some 7);
              word = 4;
              index = (record { operand = (opd.Number 0); scripts = ([]) });
              label = None;
            })
            (record { what = p.Still []; line = 9 } ∷ [])) 9
            (c.On (p.Operate
            (record {
              op = (op.Load);
              local = (Some 8);
              word = 4;
              index = (record { operand = (opd.Number 0); scripts = ([]) });
              label = None;
            })
            (record { what = p.Still []; line = 10 } ∷ [])) 10
            (c.Do (p.Proof (p.Assert (tree.Eq (tree.Name 92) (tree.Name 96)) None ([]))) 11
            (c.End (record { args = ([]); scripts = ([]) }) 12 (c.Brace 12)))));
        line = 8;
      } ∷ []);
      last = None;
    }

pub breaks_t5 : IsBroken rules.T5
unfolding t5_machine t5_program replaced replaced_in tree_size formula_size names_only form_names_only names form_names needs started_at updated_to act_slot facts_size
breaks_t5 =
    record { machine = t5_machine; program = t5_program; line = 11; breaks = refl }
