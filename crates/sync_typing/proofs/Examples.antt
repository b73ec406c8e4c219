-- A program for each rule.
use Rattle.sync_typing.specs.Laws.{EachRuleIsBroken}
use Rattle.sync_typing.proofs.BrokenTokens.{breaks_t1, breaks_t2, breaks_t3, breaks_t4, breaks_t5}
use Rattle.sync_typing.proofs.BrokenLists.{breaks_t6, breaks_t7, breaks_t8, breaks_t9, breaks_t10}
use Rattle.sync_typing.proofs.BrokenWords.{breaks_a1, breaks_a2, breaks_a3, breaks_a4, breaks_a5, breaks_a6}
use Rattle.sync_typing.proofs.BrokenScripts.{breaks_i2, breaks_k4, breaks_none}

pub each_rule_is_broken : EachRuleIsBroken
each_rule_is_broken = record {
  of_words = (breaks_a1, (breaks_a2, (breaks_a3, (breaks_a4, (breaks_a5, (breaks_a6, tt))))));
  of_tokens = (
    breaks_t1,
    (
      breaks_t2,
      (
        breaks_t3,
        (
          breaks_t4,
          (
            breaks_t5,
            (
              breaks_t6,
              (
                breaks_t7,
                (breaks_t8, (breaks_t9, (breaks_t10, tt))),
              ),
            ),
          ),
        ),
      ),
    ),
  );
  of_scripts = (breaks_i2, (breaks_k4, tt));
  of_none = breaks_none;
}
