mod Closing
