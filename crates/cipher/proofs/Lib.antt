mod Blocks
